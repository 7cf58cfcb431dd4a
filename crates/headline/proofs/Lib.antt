pub mod Fronts
pub mod Contained
