pub mod Choosing
pub mod Changing
pub mod Records
pub mod Taking
pub mod Replacing
pub mod Laws
pub mod OverEvents
pub mod Placing
