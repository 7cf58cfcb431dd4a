pub mod SizeLemmas
pub mod CommaLemmas
