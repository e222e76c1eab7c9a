pub mod Sheets
pub mod Paths
