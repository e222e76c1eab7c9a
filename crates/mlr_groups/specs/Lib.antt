pub mod Grouping
pub mod Keys
pub mod Tallying
pub mod Represents
pub mod Finding
