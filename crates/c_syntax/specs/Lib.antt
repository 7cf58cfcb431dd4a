-- Read in this order: Tree (syntax trees), Tokens (which stand where), Specifiers (C99 6.7.1, 6.7.2), Grammar (6.5,
-- 6.7.5, 6.7.6), Statements (6.7, 6.8, 6.9), Limits (how deep nodes stand), Same (trees without places), Spelling
-- (which tokens spell a unit); then Print and Text (the text that stands for a unit),
-- View and UnitView (what the trees of Rust are seen as).
-- For private contracts and proofs alone: Writes, WritesUnit, but for the terms that lists of trees of Rust are seen
-- as, which contracts of other crates cite.
pub mod Grammar
pub mod Limits
pub mod Print
pub mod Same
pub mod SeenNames
pub mod Specifiers
pub mod Spelling
pub mod Statements
pub mod Text
pub mod Tokens
pub mod Tree
pub mod UnitView
pub mod View
pub mod Writes
pub mod WritesUnit
pub use Rattle.c_lexer.specs.TokenSpelling
pub use Rattle.c_lexer.specs.declared.punctuator.TheConstants
pub use Rattle.c_lexer.specs.declared.token.Token
