mod Among
mod Joining
mod Members
mod Entering
mod Coming
mod Unpairing
mod Pushing
mod Moving
mod Belonging
mod Exactly
pub mod Crosses
