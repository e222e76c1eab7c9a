pub mod FillEmpty
pub mod Flatten
pub mod JsonParse
pub mod JsonStringify
pub mod JsonValues
pub mod Sec2Gmt
pub mod Sec2GmtDate
pub mod Unflatten
