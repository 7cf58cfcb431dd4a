-- Read in this order: Words (keywords and punctuators, C99 6.4.1, 6.4.6), Literals (constants and strings, 6.4.4,
-- 6.4.5), Kinds (what spells a token of each kind), TokenSpelling (white space, and the tokens that a text spells, 6.4);
-- then Codes and Refusals (where the tokens of a text can't go on, and why).
-- By themselves: Names (what the constants for words are named after), KindProp (a proof about kinds).
-- For private contracts and proofs alone: Runs, Elements, Parts, WhiteParts, Reading, LexerParts.
pub mod Codes
pub mod Elements
pub mod KindProp
pub mod Kinds
pub mod LexerParts
pub mod Literals
pub mod Names
pub mod Parts
pub mod Reading
pub mod Refusals
pub mod Runs
pub mod TokenSpelling
pub mod WhiteParts
pub mod Words
pub use Rattle.dm_base.specs.Name
pub use Rattle.dm_base.specs.declared.mode.Mode
