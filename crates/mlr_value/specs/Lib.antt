pub mod Value
pub mod Collections
pub mod Depth
pub mod Falls
pub mod Bytes
pub mod Stops
