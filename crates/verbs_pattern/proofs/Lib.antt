pub mod Crosses
mod Commas
mod Kept
mod RenamedBack
mod Renamed
mod Renaming
mod Rules
mod Walks
