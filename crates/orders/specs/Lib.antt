pub mod Letters
pub mod Kinds
pub mod Phases
pub mod Refusals
pub mod Words
pub mod Tables
pub mod Finding
