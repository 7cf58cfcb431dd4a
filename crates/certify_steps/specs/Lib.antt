pub mod Adding
pub mod Ending
pub mod Reading
pub mod Stepping
