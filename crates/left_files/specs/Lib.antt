pub mod Lefts
pub mod Represents
pub mod Steps
