pub mod Crosses
mod Marks
mod Splitting
mod Wide
