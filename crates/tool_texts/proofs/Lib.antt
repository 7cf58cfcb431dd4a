pub mod TextFiles
pub mod RunFiles
pub mod RunLemmas
pub mod SitesFiles
pub mod ExplainLemmas
pub mod ExplanationLemmas
pub use Rattle.tool_steps.proofs.SourceFiles
