pub mod Below
mod BelowExpressions
pub mod BelowUnits
pub mod CheckedLemmas
pub mod EntryLemmas
pub mod FileScopeLemmas
pub mod FineLemmas
pub mod Greater
pub mod Integers
pub mod ModeBlocks
pub mod ModeExpressions
pub mod ModeFunctions
pub mod ModeItems
pub mod ModeNames
pub mod ModeStatements
pub mod Modes
pub mod NoProgram
pub mod NothingMore
pub mod Terms
mod TrialDemands
mod TrialPrograms
mod TrialStatics
