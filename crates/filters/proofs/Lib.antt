pub mod Frames
pub mod Adjunction
pub mod PixelSteps
pub mod TwoSteps
pub mod MiddlePage
