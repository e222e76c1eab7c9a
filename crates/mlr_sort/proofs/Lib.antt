pub mod Ascends
pub mod InOrder
