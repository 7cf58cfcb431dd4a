-- The order of patterns.
use Rattle.std.specs.Prelude.{◌≡◌, Bool, List, Option, None, Some, ℤ}
use Rattle.std.specs.Cmp.{IsTotalOrder, IsEquivalence, int_cmp_total, int_eq_equiv}
use Rattle.std.specs.Cmp.Lexicographic.{slice_cmp, pointwise, lists_total, lists_equiv, lists_ties, options_total, options_equiv}
use Rattle.std.specs.Option.{option_cmp, option_eq}
use Rattle.std.specs.Ordering.{is_eq, int_cmp, int_eq}
use Rattle.std.specs.declared.cmp.Ordering.{Ordering}
use Rattle.std.proofs.Common.{refl}

-- the order of patterns: entry by entry, None before every number, numbers by value, a front before the whole
abbrev pub pattern_cmp : List (Option ℤ) → List (Option ℤ) → Ordering
pattern_cmp = slice_cmp (option_cmp int_cmp)

-- whether two patterns are the same list of entries
abbrev pub pattern_eq : List (Option ℤ) → List (Option ℤ) → Bool
pattern_eq = pointwise (option_eq int_eq)

-- the order is total
pub pattern_cmp_total : IsTotalOrder pattern_cmp
pattern_cmp_total = lists_total (options_total int_cmp_total)

pub pattern_eq_equivalence : IsEquivalence pattern_eq
pattern_eq_equivalence = lists_equiv (options_equiv int_eq_equiv)

entry_ties : (p q : Option ℤ) → option_eq int_eq p q ≡ is_eq (option_cmp int_cmp p q)
entry_ties None None = refl
entry_ties None (Some y) = refl
entry_ties (Some x) None = refl
entry_ties (Some x) (Some y) = refl

-- two patterns are the same list exactly where neither goes before the other
pub pattern_ties : (p q : List (Option ℤ)) → pattern_eq p q ≡ is_eq (pattern_cmp p q)
pattern_ties = lists_ties (option_cmp int_cmp) entry_ties
