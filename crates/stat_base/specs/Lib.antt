pub mod Accumulators
pub mod Outputs
pub mod Steppers
pub mod Values
