mod Rows
mod ArithRows
pub mod Pairs
pub mod Splitting
pub mod Flattening
