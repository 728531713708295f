pub mod Exactness
pub mod MeanLevels
pub mod Rules
pub mod Variance
pub mod StripSums
