pub mod Quoting
pub mod Readings
pub mod Escaping
pub mod Recording
pub mod Naming
pub mod Opening
pub mod Ends
pub mod Whole
pub mod Headings
mod Parts
pub mod Walk
pub mod Files
pub mod Prefixes
pub mod Crosses
mod Separating
