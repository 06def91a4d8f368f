pub mod Prices
pub mod Lists
pub mod Listing
pub mod Rising
