pub mod Reading
pub mod Format
