pub mod Records
pub mod Json
pub mod Turns
pub mod Streams
pub mod Plain
pub mod Represents
pub mod Grammar
