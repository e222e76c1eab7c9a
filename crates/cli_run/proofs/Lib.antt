pub mod Answering
pub mod Top
pub mod Messages
