pub mod KeyTexts
pub mod Once
mod Tables
pub mod Grouping
pub mod PerGroup
mod Counts
mod Finding
pub mod Crosses
