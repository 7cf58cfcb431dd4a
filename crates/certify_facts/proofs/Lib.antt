pub mod Closed
pub mod Lines
pub mod Owning
pub mod Places
pub mod Running
pub mod Sound
pub mod Walking
