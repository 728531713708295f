pub mod Offsets
pub mod Recipe
