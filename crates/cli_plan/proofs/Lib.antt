pub mod Readable
pub mod Sound
pub mod Apart
