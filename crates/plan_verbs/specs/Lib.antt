pub mod Plans
pub mod Verbs
pub mod Chains
