pub mod Fleet
pub mod Inputs
pub use Rattle.fleet.specs.Alone
pub use Rattle.fleet.specs.declared.standing.Standing
