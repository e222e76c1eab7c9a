mod ByPlace
pub mod Crosses
mod Known
pub mod Lasts
pub mod WholeLists
pub mod Names
pub mod Rows
mod Turning
