mod KindLemmas
mod LineLemmas
mod NameLemmas
mod PartLemmas
