pub mod TreeLemmas
pub mod UnitLemmas
