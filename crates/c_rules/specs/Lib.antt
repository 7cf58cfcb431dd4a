-- Read in this order (C99's sections): Checked (what a check finds), Codes (demands), Limits (5.2.4.1), Names (7.1.3),
-- Types (6.2.5), Scopes (6.2.1), TypedExpression (type and tree), Constants (6.6), Conversions (6.3),
-- PrimaryExpressions (6.5.1), PostfixExpressions (6.5.2), UnaryExpressions (6.5.3), BinaryExpressions (6.5.5 to
-- 6.5.15), Assignments (6.5.16), Declarators (6.7.5), Counts (calls, strings), Expressions (6.5), Initialisers (6.7.8),
-- Objects (6.7), Variables (of statements), Blocks (6.7), Statements (6.8), Functions (6.9.1), Tags (of structs), Items
-- (6.9), Units (6.9), Accepted (texts); NullCalls (calls by name); PlacesOfCalls
-- and CallPlaces (the call expressions of parts and of a unit). None is for private contracts and proofs alone.
pub mod Accepted
pub mod Assignments
pub mod BinaryExpressions
pub mod Blocks
pub mod CallPlaces
pub mod Checked
pub mod Codes
pub mod Constants
pub mod Conversions
pub mod Counts
pub mod Declarators
pub mod Expressions
pub mod Functions
pub mod TypedExpression
pub mod Initialisers
pub mod Items
pub mod Limits
pub mod Names
pub mod NullCalls
pub mod Objects
pub mod PlacesOfCalls
pub mod PostfixExpressions
pub mod PrimaryExpressions
pub mod Scopes
pub mod Statements
pub mod Tags
pub mod Types
pub mod UnaryExpressions
pub mod Units
pub mod Variables
pub use Rattle.c_syntax.specs.Tree
pub use Rattle.c_syntax.specs.View
