pub mod Crosses
mod Reading
mod Weighing
mod Replacing
mod Rows
