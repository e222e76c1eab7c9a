pub mod Suffixes
pub mod Prefixes
pub mod Marks
