-- Types that a declarator can give, and their spelling (C99 6.7.2, 6.7.5).
use Rattle.std.specs.Prelude.{◌≡◌, ℕ, Bool, true, false, List, [], ◌∷◌, ◌++◌, nat_le, slice_index_or, unwrap_or}
use Rattle.c_tree.specs.Tree.{CType, void, integer, pointer, array, struct, function, CTypes, no_types, more_types}
use Rattle.c_syntax.specs.Tree.{Ident, Spec, Declarator, named}
use Rattle.c_rules.specs.Names.{Name, number_among, is_among}
use Rattle.c_rules.specs.Limits.{most_parameters}
use Rattle.c_rules.specs.Types.{is_scalar, is_result, count}
use Rattle.c_rules.specs.Scopes.{Env}
use Rattle.c_rules.specs.Conversions.{few_parts}
use Rattle.c_rules.specs.Tags.{tags_of_spec, tags_of_declarator}
use Rattle.c_rules.specs.Checked.{fine}
use Rattle.c_rules.specs.Expressions.{declared, type_declared}
use Rattle.null_calls_laws.specs.SpelledTypes.{spec_of, declarator_of}

-- each name stands in the list
abbrev pub AreAmong : List Name → List Name → Type 0
AreAmong tags [] = Unit {0}
AreAmong tags (x ∷ xs) = (is_among tags x ≡ true) × AreAmong tags xs

-- what a pointer may lead to in this profile
abbrev pub is_pointee : CType → Bool
is_pointee void = false
is_pointee (array t n) = false
is_pointee t = true

-- The type is made as the rules on derived types have it: each part of it may stand where it stands, and the tag of each struct
-- is no enum's. The tags of structs are told by their numbers.
abbrev mutual
  pub IsSpelled : (enums tags : List Name) → CType → Type 0
  IsSpelled enums tags void = Unit {0}
  IsSpelled enums tags (integer i) = Unit {0}
  IsSpelled enums tags (struct s) =
      (unwrap_or (number_among tags (slice_index_or tags s [])) 0 ≡ s) × (is_among enums (slice_index_or tags s []) ≡ false)
  IsSpelled enums tags (pointer t) = (is_pointee t ≡ true) × (few_parts (pointer t) ≡ true) × IsSpelled enums tags t
  IsSpelled enums tags (array t n) = (is_pointee t ≡ true) × IsSpelled enums tags t
  IsSpelled enums tags (function r ts) =
      (is_result r ≡ true) × (nat_le (count ts) most_parameters ≡ true) × (few_parts (function r ts) ≡ true) × IsSpelled enums tags r × AreSpelled enums tags ts

  pub AreSpelled : (enums tags : List Name) → CTypes → Type 0
  AreSpelled enums tags no_types = Unit {0}
  AreSpelled enums tags (more_types t ts) =
      (is_scalar t ≡ true) × (few_parts t ≡ true) × IsSpelled enums tags t × AreSpelled enums tags ts

-- what is declared by the spelling of such a scalar type has that type
abbrev pub SpellingsDeclare : Type 0
SpellingsDeclare =
    (env : Env) (at : ℕ) (t : CType) (d : Declarator) → is_scalar t ≡ true → IsSpelled env.enums env.whole.tags t → type_declared env at (spec_of env.whole.tags at t) (declarator_of env.whole.tags at t d) ≡ declared env d t

-- a scalar type that is declared is such a type, so its spelling gives it again, where the tags of structs that are mentioned stand in
-- the unit
abbrev pub DeclaredTypesAreSpelled : Type 0
DeclaredTypesAreSpelled =
    (env : Env) (at here : ℕ) (s : Spec) (d : Declarator) (t : CType) (x : Ident) → AreAmong env.whole.tags (tags_of_spec s ++ tags_of_declarator d) → type_declared env at s d ≡ fine t → is_scalar t ≡ true → type_declared env here (spec_of env.whole.tags here t) (declarator_of env.whole.tags here t (named here x)) ≡ fine t
