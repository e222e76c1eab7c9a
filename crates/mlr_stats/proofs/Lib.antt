pub mod Arranged
pub mod Beside
pub mod Counting
pub mod Crosses
pub mod Firsts
pub mod Modes
pub mod Needed
pub mod Sums
