mod FollowLemmas
mod ProgramLemmas
mod StopLemmas
mod Verdicts
pub mod FileLemmas
pub mod SummaryLemmas
pub mod TellsLemmas
pub use Rattle.tool_steps.proofs.SourceLemmas
