mod Cutting
mod Exploding
mod Joining
pub mod Replacing
pub mod Crosses
