pub mod Places
pub mod Folding
pub mod Depth
mod Prefixes
mod Overlaps
pub mod Crosses
mod Stopping
mod Equal
