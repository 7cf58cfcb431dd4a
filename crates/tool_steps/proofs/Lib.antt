pub mod SourceFiles
pub mod SourceLemmas
pub mod ModelLemmas
pub mod RecordedRuns
pub mod ResultsFiles
pub mod ResultsRefused
pub use Rattle.ref_machine.proofs.Noting
