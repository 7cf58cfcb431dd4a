pub mod SiteLemmas
pub mod NameLemmas
pub mod SpelledLemmas
pub mod KeptLemmas
pub use Rattle.c_syntax_nodes.proofs.CopyLemmas
