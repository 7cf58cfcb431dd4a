pub mod CommandLemmas
pub mod FrameLemmas
pub mod WorkLemmas
