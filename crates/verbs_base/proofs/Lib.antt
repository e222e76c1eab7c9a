pub mod Changing
pub mod Passing
pub mod Filters
pub mod Picking
pub mod Places
mod Moving
mod MovingLast
mod Swapping
mod Replacing
mod NamedChanges
