pub mod Wording
pub mod Turns
mod Tables
mod Runs
pub mod Pprinting
pub mod Xtabbing
pub mod Whole
pub mod Prefixes
pub mod Gaps
pub mod Crosses
