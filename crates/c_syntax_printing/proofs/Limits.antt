-- What the total says of the length of a unit's text.
use Rattle.std.proofs.Common.{◌≡◌, ℕ, ◌+◌, ◌-◌, ◌^◌, ◌<◌, ◌≤◌, List, [], length, drop, get_or, refl, arith}
use Rattle.std.specs.Prelude.{min, IsTrue, true, false, ◌↔◌}
use Rattle.c_syntax.specs.declared.tree.Item.{Item as ItemTree}
use Rattle.c_syntax.specs.UnitView.{item_at, items_of}
use Rattle.c_syntax.specs.Print.{item_kinds, unit_kinds}
use Rattle.c_syntax.specs.Text.{unit_text}
use Rattle.c_syntax_printing.specs.Counted.{capped, reached, Leaves, Counts}
use Rattle.c_syntax_printing.proofs.Counting.{one_counted, all_counted}

past_bound : (whole rest total limit most : ℕ) → min (total + rest) most ≡ min (0 + whole) most → limit < most → limit < total → limit < whole
past_bound whole rest total limit most e below past = omega arith

within_bound : (whole total limit most : ℕ) → min (total + 0) most ≡ min (0 + whole) most → limit < most → total ≤ limit → whole ≤ limit
within_bound whole total limit most e below within = omega arith

-- one item was counted
pub item_counted :
    (xs : List ItemTree) (i : ℕ) (x : ItemTree) → i < length xs → x ≡ get_or xs i x → {a b c : ℕ}
    → Leaves a (unit_kinds (items_of xs)) b (unit_kinds (items_of (drop i xs))) → Counts b (item_kinds (item_at x.at x.kind)) c
    → Leaves a (unit_kinds (items_of xs)) c (unit_kinds (items_of (drop (i + 1) xs)))
item_counted xs i x below is before now =
    one_counted (λ ys. unit_kinds (items_of ys)) (λ ys. unit_kinds (items_of ys)) (λ y. item_kinds (item_at y.at y.kind)) (λ y ys k. refl) xs i x below is before now

-- where the total is past the limit, so is the text
pub past_limit :
    (xs : List ItemTree) (i total limit : ℕ) → Leaves 0 (unit_kinds (items_of xs)) total (unit_kinds (items_of (drop i xs)))
    → limit < 2 ^ 32 → limit < total → limit < length (unit_text (items_of xs))
unfolding capped reached
past_limit xs i total limit x below past =
    past_bound (length (unit_text (items_of xs))) (length (unit_text (items_of (drop i xs)))) total limit (2 ^ 64 - 1) (x.same []) (omega arith) past

-- where nothing is left and the total is within the limit, so is the text
pub within_limit :
    (xs : List ItemTree) (i total limit : ℕ) → length xs ≤ i → Leaves 0 (unit_kinds (items_of xs)) total (unit_kinds (items_of (drop i xs)))
    → limit < 2 ^ 32 → total ≤ limit → length (unit_text (items_of xs)) ≤ limit
unfolding capped reached
within_limit xs i total limit ended x below within =
    let whole : Counts 0 (unit_kinds (items_of xs)) total = all_counted (λ ys. unit_kinds (items_of ys)) (λ k. refl) xs i ended x in
    within_bound (length (unit_text (items_of xs))) total limit (2 ^ 64 - 1) (whole.same []) (omega arith) within

-- the answers
pub is_within : (whole limit : ℕ) → whole ≤ limit → IsTrue true ↔ (whole ≤ limit)
is_within whole limit within = (λ e. within, λ h. refl)

pub is_past : (whole limit : ℕ) → limit < whole → IsTrue false ↔ (whole ≤ limit)
is_past whole limit past = (λ e. absurd (cc e), λ within. absurd (omega arith))
