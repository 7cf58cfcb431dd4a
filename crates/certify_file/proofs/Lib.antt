pub mod FileLemmas
pub mod FreeLemmas
pub mod HeadLemmas
pub mod LineLemmas
pub mod Parts
pub mod WritingLemmas
