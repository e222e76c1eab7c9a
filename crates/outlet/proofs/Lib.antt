pub mod Growing
pub mod Putting
pub mod Passing
pub mod Writing
pub mod Following
mod Pieces
