pub mod Nearest
pub mod Parting
