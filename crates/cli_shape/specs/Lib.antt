pub mod Join
pub mod Nest
