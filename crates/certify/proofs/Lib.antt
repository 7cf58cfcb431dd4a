pub mod ClaimLemmas
pub mod ConfirmLemmas
pub mod EndsLemmas
pub mod KnownLemmas
pub mod LoopLemmas
pub mod ReasonLemmas
