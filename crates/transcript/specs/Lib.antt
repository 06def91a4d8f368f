pub mod Turns
pub mod Lines
pub mod Summary
pub mod Texts
