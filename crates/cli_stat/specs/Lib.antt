pub mod Lists
pub mod Stats1
pub mod Step
pub mod Top
