pub mod Generator
pub mod Pieces
pub mod Typed
pub mod Accepted
pub mod Bounds
