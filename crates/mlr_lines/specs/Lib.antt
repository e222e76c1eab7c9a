pub mod Lines
pub mod Steps
pub mod Represents
pub mod Prefixes
pub mod Blocks
pub mod Reader
