pub mod Enumerators
pub mod HeldStructs
pub mod Loops
pub mod Moves
pub mod Turns
