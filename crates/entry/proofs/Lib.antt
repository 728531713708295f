pub mod Weights
pub mod Homomorphism
pub mod ModularSums
