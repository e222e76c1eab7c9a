pub mod Nest
pub mod Back
