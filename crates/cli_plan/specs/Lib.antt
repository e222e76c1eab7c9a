pub mod Flags
pub mod Settings
pub mod Options
pub mod Inputs
pub mod Clashes
pub mod Say
pub mod Accepting
pub mod Planning
