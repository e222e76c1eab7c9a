pub mod Comparing
pub mod Keeping
pub mod Crosses
