pub mod Changing
pub mod Deciding
pub mod Running
pub mod Showing
pub mod Turning
pub mod Uncrossing
