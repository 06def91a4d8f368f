pub mod Sides
pub mod Reading
