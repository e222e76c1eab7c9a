pub mod Answer
pub mod Command
pub mod Meaning
pub mod Reading
pub mod Whole
pub mod Run
pub mod Represents
pub mod Models
