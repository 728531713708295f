pub mod Pixels
pub mod Page
pub mod Numbers
pub mod Lines
