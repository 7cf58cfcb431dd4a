-- Read in this order: Tree (typed trees), Functions (by numbers), Layout (of objects, C99 6.2.6.1, 6.5.3.4, 6.7.2.1),
-- Operands (their types), Kinds (values of a type), Typed (well-typed expressions and statements), Gathered (what is gathered from a tree), Sites (of calls),
-- Program (well-typed programs); Operators (what they give on integers, 6.3.1, 6.5), Constants (patterns of system
-- calls); then the laws OperatorTypes and PatternsRight. By themselves: View (what the trees of Rust are seen as),
-- Counts (of cells), Prototypes (the types of system calls as a table).
-- For private contracts and proofs alone: Inside.
pub mod Constants
pub mod Counts
pub mod Functions
pub mod Gathered
pub mod Inside
pub mod Kinds
pub mod Layout
pub mod Operands
pub mod OperatorTypes
pub mod Operators
pub mod PatternsRight
pub mod Program
pub mod Prototypes
pub mod Sites
pub mod Tree
pub mod Typed
pub mod View
pub use Rattle.sys_table.specs.Table
pub use Rattle.dm_base.specs.declared.mode.Mode
