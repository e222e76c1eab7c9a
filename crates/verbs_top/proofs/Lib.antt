pub mod FirstOnes
pub mod Keeping
pub mod Columns
pub mod Stating
pub mod Crosses
