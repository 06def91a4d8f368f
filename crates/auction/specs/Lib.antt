pub mod Totals
pub mod Orders
pub mod Sums
pub mod Best
pub mod Candidates
pub mod Laws
pub mod Opening
