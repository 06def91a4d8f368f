pub mod Numbers
pub mod Faults
pub mod Words
pub mod Bodies
pub mod Asking
pub mod Format
pub mod Reading
pub mod Law
