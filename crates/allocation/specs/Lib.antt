pub mod Trades
pub mod Holdings
pub mod Naming
pub mod Allocation
pub mod Words
