pub mod AtEnd
pub mod Counts
pub mod Grouped
pub mod Represents
