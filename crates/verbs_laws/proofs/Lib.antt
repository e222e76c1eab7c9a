mod Parts
mod Moved
mod Filled
mod FirstMet
mod SortedInts
