pub mod Loops
pub mod Pairing
pub mod Standing
pub mod Midpoints
pub mod Summing
pub mod Running
