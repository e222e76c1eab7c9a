pub mod Sources
pub mod Takes
pub mod Readers
pub mod Feeding
pub mod Represents
pub mod Steps
