pub mod Filters
pub mod Laws
pub mod Steps
