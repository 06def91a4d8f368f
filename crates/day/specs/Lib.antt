pub mod Account
pub mod Law
pub mod Noting
