pub mod Suffixing
pub mod Building
mod Texts
pub mod Crosses
mod Marking
