pub mod Count
pub mod CountDistinct
pub mod Frequent
pub mod GroupCount
pub mod GroupNumber
pub mod RecordCount
pub mod Uniq
