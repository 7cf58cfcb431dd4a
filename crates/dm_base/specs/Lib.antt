-- Read in this order: Name (names and keywords, C99 6.4.2.1, 6.4.1), Pattern (the order of patterns), Fits (which
-- events a system-call edge reads), Trace (null calls left out, bytes written, calls open), Codes (how a run of the
-- program ends).
-- For private contracts and proofs alone: Adding, PatternRow.
pub mod Adding
pub mod Codes
pub mod Fits
pub mod Name
pub mod Pattern
pub mod PatternRow
pub mod Trace
