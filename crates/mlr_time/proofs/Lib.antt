mod Dates
mod Digits
