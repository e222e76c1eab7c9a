pub mod Meaning
pub mod Message
pub mod Run
