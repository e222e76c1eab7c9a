pub mod SortLike
