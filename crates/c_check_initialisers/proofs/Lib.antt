pub mod LengthLemmas
pub mod SlotLemmas
pub mod StoreLemmas
pub mod ZeroLemmas
