pub mod Crosses
mod Entering
mod Keeping
mod Named
mod Putting
mod Tracks
