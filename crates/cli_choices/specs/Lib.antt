pub mod Choices
pub mod Names
pub mod Growing
