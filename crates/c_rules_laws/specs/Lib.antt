-- Read in this order: Lexical (units as texts spell them), MadeTypes (types as declarators make them, C99 6.7.5),
-- SoundStructs (6.7.2.1), RightScopes (what names mean is there in the program); then the laws: WellTyped (parts of a
-- typed unit are well-typed), Programs (the unit is a well-typed program), PlaceLaws (the places of nodes don't
-- matter), TypedAlike and EnvironmentLaws (parts that stay as they are in an instrumented unit).
-- ClosedTypes (properties of types that pass from names and members to expressions) is for proofs, but for what a scope
-- has.
pub mod AreSites
pub mod ClosedTypes
pub mod ConstantForm
pub mod EnvironmentLaws
pub mod Lexical
pub mod MadeTypes
pub mod PlaceLaws
pub mod Programs
pub mod RightScopes
pub mod SoundStructs
pub mod TypedAlike
pub mod WellTyped
