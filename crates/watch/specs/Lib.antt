pub mod Keeping
pub mod Own
pub mod Pasts
pub mod Standing
pub mod Watching
