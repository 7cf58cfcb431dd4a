pub mod BufferLemmas
pub mod FillLemmas
pub mod PointerLemmas
pub mod TakingLemmas
pub mod ObjectLemmas
