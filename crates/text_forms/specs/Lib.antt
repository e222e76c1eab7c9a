pub mod Shown
pub mod Dkvp
