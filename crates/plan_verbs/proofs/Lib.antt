pub mod Copies
pub mod Crosses
pub mod New
pub mod Verbs
