pub mod Regions
pub mod Pages
pub mod Windows
