pub mod Across
pub mod Implode
pub mod Nest
pub mod Pieces
