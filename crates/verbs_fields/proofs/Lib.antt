mod Once
mod Entries
mod Labels
mod Spaceless
pub mod Ascending
mod Deep
pub mod Crosses
mod Rearranged
mod Sparse
mod Templates
