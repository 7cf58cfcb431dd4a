-- Read in this order: Answers (the kinds of undefined behaviour), Memory (objects by their names, C99 3.14, 6.2.4),
-- Cells (single cells of an object), MemoryLaws (6.2.4 paragraph 2), OperandValues (which values operators are given),
-- Told (what results of calls tell), Seen (memory as the code holds it).
-- For private contracts and proofs alone: Ranges, Held.
pub mod Answers
pub mod Cells
pub mod Held
pub mod Memory
pub mod MemoryLaws
pub mod OperandValues
pub mod Ranges
pub mod Seen
pub mod Told
