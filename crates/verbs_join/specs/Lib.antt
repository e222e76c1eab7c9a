pub mod Join
pub mod Naming
pub mod Places
pub mod Sharing
pub mod Represents
pub mod Paired
