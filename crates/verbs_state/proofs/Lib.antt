mod Rows
mod Lasts
mod Filling
mod Gaps
mod Names
mod Regular
mod Rearranged
mod Whole
pub mod Crosses
