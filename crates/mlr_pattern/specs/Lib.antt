pub mod Word
pub mod Weight
pub mod Reading
pub mod Replacing
pub mod Groups
pub mod Values
pub mod Several
