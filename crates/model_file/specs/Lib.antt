-- Read in this order: ModelText (the text of a model, and which lists have one), Refusal (the file of a model, and why
-- a text is none).
-- For private contracts and proofs alone: Words, Kinds, Lines, Bounds, SysBounds, Progress, States, Writing.
pub mod Bounds
pub mod Kinds
pub mod Lines
pub mod ModelText
pub mod Progress
pub mod Refusal
pub mod States
pub mod SysBounds
pub mod Words
pub mod Writing
