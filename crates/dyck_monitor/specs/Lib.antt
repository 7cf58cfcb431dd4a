pub mod Adding
pub mod Moves
pub mod Silence
pub mod Sites
pub mod Standing
