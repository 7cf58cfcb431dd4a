pub mod InputFiles
pub mod InputLemmas
pub mod ModelFiles
pub mod ReadingLemmas
pub mod StatusLemmas
pub use Rattle.tool_monitors.proofs.Judgements
pub use Rattle.tool_monitors.proofs.PairLemmas
