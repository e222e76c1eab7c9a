pub mod KeptOfGroup
pub mod MergeFields
pub mod Merging
pub mod Shortened
pub mod Stats1
