-- Types that declarators make, whose structs have tags that stand before (C99 6.7.2, 6.7.5).
use Rattle.std.specs.Prelude.{◌≡◌, true, false, List, nat_le, slice_index_or, unwrap_or, []}
use Rattle.c_tree.specs.Tree.{CType, void, integer, pointer, array, struct, function, CTypes, no_types, more_types}
use Rattle.c_rules.specs.Names.{Name, number_among, is_among}
use Rattle.c_rules.specs.Limits.{most_parameters}
use Rattle.c_rules.specs.Types.{is_scalar, is_result, count}
use Rattle.c_rules.specs.Conversions.{few_parts}
use Rattle.null_calls_laws.specs.Spelled.{is_pointee}

-- The tags of structs are told by their numbers: each has this number, is no enum's, and stands before.
module _ (enums tags stood : List Name) where
  abbrev mutual
    -- the type of an object or a function
    pub Written : CType → Type 0
    Written void = Unit {0}
    Written (integer i) = Unit {0}
    Written (struct s) =
        (unwrap_or (number_among tags (slice_index_or tags s [])) 0 ≡ s) × (is_among enums (slice_index_or tags s []) ≡ false) × (is_among stood (slice_index_or tags s []) ≡ true)
    Written (pointer t) = (is_pointee t ≡ true) × (few_parts (pointer t) ≡ true) × Written t
    Written (array t n) = (is_pointee t ≡ true) × (few_parts (pointer t) ≡ true) × Written t
    Written (function r ts) =
        (is_result r ≡ true) × (nat_le (count ts) most_parameters ≡ true) × (few_parts (function r ts) ≡ true) × Written r × AllWritten ts

    pub AllWritten : CTypes → Type 0
    AllWritten no_types = Unit {0}
    AllWritten (more_types t ts) = (is_scalar t ≡ true) × (few_parts t ≡ true) × Written t × AllWritten ts

  -- the type of a value: that of a null pointer constant is void *
  abbrev pub IsValueType : CType → Type 0
  IsValueType (pointer void) = Unit {0}
  IsValueType t = Written t
