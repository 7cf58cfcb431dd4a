-- Members of lists, and tests.
use Rattle.std.proofs.Common.{◌≡◌, ℕ, ◌+◌, ◌-◌, ◌<◌, ◌≤◌, Bool, true, false, ◌||◌, List, map, filter, length, Contains, refl, sym, ◌∙◌, arith}
use Rattle.std.specs.List.{range_with_len}
use Rattle.std.proofs.lemmas.Bool.{or_parts}
use Rattle.std.proofs.lemmas.List.{length-map}
use Rattle.std.proofs.lemmas.List.FromFn.{length-range_with_len, get_or-range_with_len}
use Rattle.flow_model.proofs.EdgesFound.{contains_filter, contains_map}
pub use Rattle.std.proofs.lemmas.Bool.{and_from as and_both, or_left, or_right, or_cases, ltb-true as below, lt-ltb as is_below, ltb-false as not_below, le-ltb as isnt_below, eqb-true as same_number, ne_eqb as other_number}
pub use Rattle.dm_base.proofs.Orders.{is_first, is_later}
pub use Rattle.sys_table.proofs.Names.{and_left, and_right}
pub use Rattle.flow_model.proofs.OwnersBelow.{contains_none as none_in}
pub use Rattle.flow_model.proofs.Rising.{cons_cases as cases}

pub or_false_left : (a b : Bool) → (a || b) ≡ false → a ≡ false
or_false_left a b h = (or_parts a b h).0

pub or_false_right : (a b : Bool) → (a || b) ≡ false → b ≡ false
or_false_right a b h = (or_parts a b h).1

-- a filter has what passes, and nothing else
pub from_filter : {X : Type 0} (test : X → Bool) (xs : List X) (z : X) → Contains (filter test xs) z → Contains xs z × (test z ≡ true)
from_filter test xs z h = (contains_filter test xs z).0 h

pub in_filter : {X : Type 0} (test : X → Bool) (xs : List X) (z : X) → Contains xs z → test z ≡ true → Contains (filter test xs) z
in_filter test xs z h k = (contains_filter test xs z).1 (h, k)

pub in_map : {X Y : Type 0} (f : X → Y) (xs : List X) (x : X) → Contains xs x → Contains (map f xs) (f x)
in_map f xs x h = (contains_map f xs (f x)).1 (x, h, refl)

pub from_map : {X Y : Type 0} (f : X → Y) (xs : List X) (y : Y) → Contains (map f xs) y → (x : X) × Contains xs x × (f x ≡ y)
from_map f xs y h = (contains_map f xs y).0 h

pub length_map : {X Y : Type 0} (f : X → Y) (xs : List X) → length (map f xs) ≡ length xs
length_map f xs = length-map xs f

pub in_range : (a n z : ℕ) → a ≤ z → z < a + n → Contains (range_with_len a n) z
in_range a n z le lt =
    let many = length-range_with_len a n in
    (z - a, omega (arith, many, le, lt), get_or-range_with_len a n (z - a) z (omega (arith, le, lt)) ∙ omega (arith, le))

pub from_range : (a n z : ℕ) → Contains (range_with_len a n) z → (a ≤ z) × (z < a + n)
from_range a n z (k, lt, is) =
    let many = length-range_with_len a n in
    let at : a + k ≡ z = sym (get_or-range_with_len a n k z (omega (arith, many, lt))) ∙ is in
    (omega (arith, at), omega (arith, at, many, lt))
