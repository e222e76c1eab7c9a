mod Rows
mod Holding
mod Adding
pub mod Crosses
