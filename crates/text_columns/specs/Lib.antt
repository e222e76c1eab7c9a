pub mod Width
pub mod Xtab
pub mod Pprint
pub mod Chunks
pub mod Columns
