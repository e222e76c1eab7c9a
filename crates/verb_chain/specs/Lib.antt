pub mod Chain
pub mod Represents
