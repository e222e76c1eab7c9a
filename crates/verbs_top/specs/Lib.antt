pub mod Best
pub mod State
pub mod Top
