pub mod Best
pub mod Statistic
pub mod Kept
