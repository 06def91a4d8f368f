pub mod Ranks
pub mod Keys
pub mod Points
pub mod Ahead
pub mod Lexical
