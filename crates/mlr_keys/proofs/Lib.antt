pub mod Sets
pub mod Keyed
pub mod Crosses
