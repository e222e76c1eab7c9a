pub mod Step
pub mod Kept
pub mod Made
pub mod Represents
