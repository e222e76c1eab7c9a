pub mod Crosses
pub mod Keeping
pub mod Meeting
pub mod Merging
pub mod Shortening
