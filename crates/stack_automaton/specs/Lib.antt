-- Read in this order: Held (what the states of a pool hold: stacks), Seen (what contracts see of a pool and of a
-- monitor), Standing (what these stand for).
-- For private contracts and proofs alone: Links, Marks, Event, Noting, Following, Storing, Moving, Resolving.
pub mod Event
pub mod Following
pub mod Held
pub mod Links
pub mod Marks
pub mod Moving
pub mod Noting
pub mod Resolving
pub mod Seen
pub mod Standing
pub mod Storing
