pub mod Bounds
pub mod Closed
pub mod Costs
pub mod Edges
pub mod LaidLemmas
pub mod Pushed
pub mod Stands
