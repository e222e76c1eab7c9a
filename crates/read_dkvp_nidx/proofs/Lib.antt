pub mod Piecewise
mod Rowing
pub mod Whole
pub mod Tables
pub mod Prefixes
pub mod Crosses
