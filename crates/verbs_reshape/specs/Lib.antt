pub mod Reshape
pub mod ToLong
pub mod ToWide
