pub mod AcceptedRuns
pub mod Headline
pub use Rattle.null_calls_laws.specs.LexicalTexts
pub use Rattle.null_calls_laws.specs.Units
pub use Rattle.null_calls_laws.specs.InstrumentedTexts
