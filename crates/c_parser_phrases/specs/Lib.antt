-- Read in this order: Standing (what stands first among the tokens, and what was taken), Looking (what stands first,
-- for expressions and declarators), Phrases (what is read of a phrase), Refusing (why a phrase isn't read).
-- For private contracts and proofs alone: Deepest, Making, Deep, Inside, Reading, Lists.
pub mod Deep
pub mod Deepest
pub mod Inside
pub mod Lists
pub mod Looking
pub mod Making
pub mod Phrases
pub mod Reading
pub mod Refusing
pub mod Standing
