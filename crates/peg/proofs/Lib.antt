pub mod Pegging
