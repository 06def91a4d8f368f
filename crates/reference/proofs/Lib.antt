pub mod Quoting
