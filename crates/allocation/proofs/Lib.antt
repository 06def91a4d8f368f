pub mod Settling
pub mod Alone
pub mod Pushing
pub mod Listing
pub mod Trading
pub mod Eligible
pub mod Allocating
pub mod Extending
