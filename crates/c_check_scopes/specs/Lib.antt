-- Read in this order: Numbers (names and strings as they are seen), Bound (the names that scopes hold), Known (the members of structs), Shown (what a table of
-- structs shows), View (the parts of an environment, as the rules have them), Held (the structs that objects of a type
-- hold), Extents (sizes and alignments, as the layout has them).
-- For private contracts and proofs alone: Front, Prototypes, Index, Measured, Laid, Fitting, Strings.
pub mod Bound
pub mod Extents
pub mod Fitting
pub mod Front
pub mod Held
pub mod Index
pub mod Known
pub mod Laid
pub mod Measured
pub mod Numbers
pub mod Prototypes
pub mod Shown
pub mod Strings
pub mod View
pub use Rattle.c_rules.specs.Checked
pub use Rattle.c_rules.specs.Constants
pub use Rattle.c_rules.specs.Conversions
pub use Rattle.c_rules.specs.Limits
pub use Rattle.c_rules.specs.PrimaryExpressions
pub use Rattle.c_rules.specs.Scopes
pub use Rattle.c_rules.specs.TypedExpression
pub use Rattle.c_rules.specs.Types
pub use Rattle.c_rules.specs.Declarators
pub use Rattle.c_rules.specs.Functions
pub use Rattle.c_rules.specs.Items
pub use Rattle.c_rules.specs.Names
pub use Rattle.c_rules.specs.Units
pub use Rattle.c_rules.specs.Variables
