pub mod Distinct
pub mod Putting
pub mod Streams
pub mod Naming
pub mod Making
pub mod Ordered
pub mod Listed
mod Tac
pub mod Crosses
