-- Read in this order: Store (what a store tells of its files), Sink (what a sink tells of the bytes that it took),
-- Stream (a sink over a writer); then, for stores and sinks in memory, Faults (counts of faults), Plan (which calls
-- fail), Memory.
-- For private contracts and proofs alone: Front.
pub mod Faults
pub mod Front
pub mod Memory
pub mod Plan
pub mod Sink
pub mod Store
pub mod Stream
