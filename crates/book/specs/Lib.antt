pub mod Calls
pub mod Phases
pub mod Requests
pub mod Tests
pub mod Views
