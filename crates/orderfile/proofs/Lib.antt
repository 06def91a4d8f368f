pub mod Fields
pub mod Cutting
pub mod Written
pub mod Meaning
pub mod Joining
pub mod Framing
pub mod Lawful
