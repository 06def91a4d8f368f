pub mod Summing
pub mod Steady
pub mod Leading
pub mod Choosing
pub mod Moving
pub mod Listing
