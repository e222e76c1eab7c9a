mod Blocks
mod CodePoints
mod Coded
mod Encoding
mod Joined
mod Walks
mod Widening
mod Written
