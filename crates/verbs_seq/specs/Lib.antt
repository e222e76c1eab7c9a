pub mod Seq
pub mod Represents
pub mod TestSource
