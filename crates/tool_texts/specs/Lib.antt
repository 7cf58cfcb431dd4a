-- For private contracts and proofs alone: Stopping.
pub mod Check
pub mod Modelled
pub mod Run
pub mod Sites
pub mod Explained
pub mod Stopping
pub use Rattle.tool_steps.specs.declared.error.SourceError
pub use Rattle.tool_steps.specs.Sources
