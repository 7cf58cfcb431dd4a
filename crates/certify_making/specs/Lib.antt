pub mod Made
pub mod Adding
pub mod Notes
pub mod Pairs
pub mod Ahead
