-- Read in this order: Next (what may come next after a trace), Text (how that is written), Kept (the events that are kept, and one
-- that is kept next). For private contracts and proofs alone: Marked, Following.
pub mod Following
pub mod Kept
pub mod Marked
pub mod Next
pub mod Text
