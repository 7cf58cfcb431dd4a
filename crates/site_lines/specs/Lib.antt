-- Read SiteLines, and no other.
-- For private contracts and proofs alone: Parts.
pub mod Parts
pub mod SiteLines
