mod Decoded
mod Putting
mod Flattening
pub mod Crosses
