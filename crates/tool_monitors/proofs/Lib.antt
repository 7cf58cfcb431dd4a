pub mod HearingLemmas
pub mod Judgements
pub mod Nesting
pub mod PairLemmas
