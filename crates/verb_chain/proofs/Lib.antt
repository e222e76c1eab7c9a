pub mod Growing
pub mod Cutting
pub mod Gating
pub mod Passing
pub mod InOrder
pub mod Chains
pub mod Closing
pub mod Unclosed
