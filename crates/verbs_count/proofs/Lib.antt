pub mod Crosses
pub mod Entering
mod GroupOnce
pub mod Sorting
