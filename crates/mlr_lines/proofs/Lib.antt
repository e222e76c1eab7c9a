pub mod Cutting
pub mod Feeding
pub mod Prefixing
pub mod Parting
pub mod Blocks
