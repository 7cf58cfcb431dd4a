pub mod CallLemmas
pub mod MemberLemmas
