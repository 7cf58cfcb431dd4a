-- Read in this order: Words (numbers and bytes as words), Reading (what the readers of words and lines answer), Files
-- (lines of a text, and how a text that is not formed is refused).
-- For private contracts and proofs alone: Hexadecimal, Numbers, Spelling, OneLine.
pub mod Files
pub mod Hexadecimal
pub mod Numbers
pub mod OneLine
pub mod Reading
pub mod Spelling
pub mod Words
pub use Rattle.dm_base.specs.declared.event.Arg
pub use Rattle.dm_base.specs.declared.event.Event
