pub mod Notices
pub mod Laws
