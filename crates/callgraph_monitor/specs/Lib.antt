pub mod Laid
pub mod Ahead
pub mod Visits
pub mod Standing
pub mod Space
