pub mod Region
pub mod Drawn
