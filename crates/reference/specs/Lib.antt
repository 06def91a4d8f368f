pub mod Quote
pub mod References
