pub mod Magnitudes
pub mod Fractions
pub mod Rows
