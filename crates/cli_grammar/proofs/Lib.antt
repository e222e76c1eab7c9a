pub mod Fits
pub mod Lines
pub mod Rows
pub mod Walks
pub mod Continuations
pub mod Causes
pub mod Refusals
