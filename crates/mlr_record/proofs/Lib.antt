pub mod Places
mod Edits
mod Finding
mod Named
mod Children
mod Unflattening
mod NamedPaths
mod RoundTrip
pub mod Crosses
pub mod Lanes
