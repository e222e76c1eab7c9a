pub mod Out
pub mod Represents
pub mod PendingText
