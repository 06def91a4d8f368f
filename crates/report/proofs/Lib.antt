pub mod Letters
pub mod Decimals
pub mod Growing
