pub mod Magnitude
pub mod Fraction
