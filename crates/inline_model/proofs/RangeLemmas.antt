-- The entries of one function stand beside each other.
use Rattle.std.proofs.Common.{◌≡◌, ◌↔◌, inl, inr, ℕ, ◌+◌, ◌-◌, ◌<◌, ◌≤◌, List, length, drop, get_or, Contains, refl, sym, ap, ◌∙◌, subst, arith}
use Rattle.std.specs.List.Sorted.{IsNonDecreasingBy}
use Rattle.std.specs.declared.cmp.Ordering.{Ordering}
use Rattle.std.specs.declared.cmp.Ordering.TheVariants.{Less, Equal, Greater}
use Rattle.std.specs.Ordering.{nat_cmp, ordering_then}
use Rattle.std.specs.Prelude.{slice_range}
use Rattle.std.proofs.lemmas.Bool.{cases_eq, cases_lt}
use Rattle.std.proofs.lemmas.List.{get_or_default, get_or-take, get_or-drop, length-take, length-drop}
use Rattle.flow_model.specs.Order.{StrictlyRise}
use Rattle.flow_model.proofs.OrderLemmas.{lt_from_less, numbers_tie}
use Rattle.inline_model.specs.declared.table.Entry.{Entry}
use Rattle.inline_model.specs.Entries.{entry_order}

first_not_greater : (a b : ℕ) (o : Ordering) → ordering_then (nat_cmp a b) o ≡ Less → a ≤ b
first_not_greater a b o h = by_first (nat_cmp a b) refl h
  where
    by_first : (p : Ordering) → nat_cmp a b ≡ p → ordering_then p o ≡ Less → a ≤ b
    by_first Less is e = omega (arith, lt_from_less a b is)
    by_first Equal is e = omega (arith, (numbers_tie a b).0 is)
    by_first Greater is e = absurd (cc)

-- the functions of the entries don't fall
pub functions_rise : (entries : List Entry) → StrictlyRise entry_order entries → IsNonDecreasingBy (λ (e : Entry). e.function) entries
functions_rise entries rise i j d least within = elim (cases_eq i j) [
  | inl same ↦ omega (arith, ap (λ k. (get_or entries k d).function) same)
  | inr other ↦ (let lt : i < j = omega (arith, other) in first_not_greater (get_or entries i d).function (get_or entries j d).function _ (rise i j d lt within))
]

module _ (entries : List Entry) (f s t : ℕ) (rise : StrictlyRise entry_order entries)
    (s_within : s ≤ length entries) (t_within : t ≤ length entries)
    (s_before : (k : ℕ) (d : Entry) → k < s → (get_or entries k d).function < f)
    (s_after : (k : ℕ) (d : Entry) → s ≤ k → k < length entries → f ≤ (get_or entries k d).function)
    (t_before : (k : ℕ) (d : Entry) → k < t → (get_or entries k d).function ≤ f)
    (t_after : (k : ℕ) (d : Entry) → t ≤ k → k < length entries → f < (get_or entries k d).function) where
  pub in_turn : s ≤ t
  in_turn = elim (cases_lt t s) [
    | inr ge ↦ ge
    | inl lt ↦ absurd (
        let d : Entry = record { function = 0; place = 0; candidate = 0 } in
        let within : t < length entries = omega arith in
        let least : t ≤ t = omega arith in
        let below = s_before t d lt in
        let above = t_after t d least within in
        omega (arith, below, above))
  ]

  range_long : length (slice_range entries s t) ≡ t - s
  range_long = omega (arith, length-take (t - s) (drop s entries), length-drop s entries, in_turn)

  range_at : (k : ℕ) (d : Entry) → k < t - s → get_or (slice_range entries s t) k d ≡ get_or entries (s + k) d
  range_at k d lt = get_or-take (t - s) (drop s entries) k d lt ∙ get_or-drop s entries k d

  pub range_has : (e : Entry) → Contains (slice_range entries s t) e ↔ (Contains entries e × (e.function ≡ f))
  range_has e = (
    λ (k, lt, is).
        let inside : k < t - s = omega (arith, range_long) in
        let at : get_or entries (s + k) e ≡ e = sym (range_at k e inside) ∙ is in
        let within : s + k < length entries = omega arith in
        let least : s ≤ s + k = omega arith in
        let most : s + k < t = omega arith in
        let above = s_after (s + k) e least within in
        let below = t_before (s + k) e most in
        ((s + k, within, at), omega (arith, above, below, ap (λ (x : Entry). x.function) at)),
    λ ((k, lt, is), same).
        let function : (get_or entries k e).function ≡ f = ap (λ (x : Entry). x.function) is ∙ same in
        let low : s ≤ k = elim (cases_lt k s) [ inr ge ↦ ge | inl less ↦ absurd (omega (arith, s_before k e less)) ] in
        let high : k < t = elim (cases_lt k t) [ inl less ↦ less | inr ge ↦ absurd (omega (arith, t_after k e ge lt)) ] in
        let inside : k - s < t - s = omega arith in
        let place : s + (k - s) ≡ k = omega arith in
        (k - s, omega (arith, range_long), range_at (k - s) e inside ∙ ap (λ i. get_or entries i e) place ∙ is),
  )

  pub range_rises : StrictlyRise entry_order (slice_range entries s t)
  range_rises i j d lt within =
      let j_inside : j < t - s = omega (arith, range_long) in
      let i_inside : i < t - s = omega (arith) in
      let less = rise (s + i) (s + j) d (omega arith) (omega arith) in
      subst (λ x. entry_order x (get_or (slice_range entries s t) j d) ≡ Less) (sym (range_at i d i_inside)) (subst (λ y. entry_order (get_or entries (s + i) d) y ≡ Less) (sym (range_at j d j_inside)) less)

-- the places of the entries of one function don't fall
pub places_rise : (f : ℕ) (entries : List Entry) → StrictlyRise entry_order entries → ((e : Entry) → Contains entries e → e.function ≡ f) → IsNonDecreasingBy (λ (e : Entry). e.place) entries
places_rise f entries rise one i j d least within = elim (cases_eq i j) [
  | inl same ↦ omega (arith, ap (λ k. (get_or entries k d).place) same)
  | inr other ↦
      let lt : i < j = omega (arith, other) in
      let i_within : i < length entries = omega arith in
      let first : (get_or entries i d).function ≡ f = one (get_or entries i d) (i, i_within, get_or_default entries i (get_or entries i d) d i_within) in
      let second : (get_or entries j d).function ≡ f = one (get_or entries j d) (j, within, get_or_default entries j (get_or entries j d) d within) in
      let tie = (numbers_tie (get_or entries i d).function (get_or entries j d).function).1 (first ∙ sym second) in
      first_not_greater (get_or entries i d).place (get_or entries j d).place _ (sym (ap (λ o. ordering_then o (ordering_then (nat_cmp (get_or entries i d).place (get_or entries j d).place) (nat_cmp (get_or entries i d).candidate (get_or entries j d).candidate))) tie) ∙ rise i j d lt within)
]

-- the first entry from a place on
module _ (entries own : List Entry) (f from at : ℕ) (own_has : (e : Entry) → Contains own e ↔ (Contains entries e × (e.function ≡ f))) (rise : StrictlyRise entry_order own)
    (before : (k : ℕ) (d : Entry) → k < at → (get_or own k d).place < from)
    (after : (k : ℕ) (d : Entry) → at ≤ k → k < length own → from ≤ (get_or own k d).place) where
  pub own_places : IsNonDecreasingBy (λ (e : Entry). e.place) own
  own_places = places_rise f own rise (λ e has. ((own_has e).0 has).1)

  pub next_found : (d : Entry) → at < length own → (from ≤ (get_or own at d).place) × ((h : ℕ) × Contains entries (record { function = f; place = (get_or own at d).place; candidate = h })) × ((e : Entry) → Contains entries e → e.function ≡ f → from ≤ e.place → (get_or own at d).place ≤ e.place)
  next_found d lt =
      let one = get_or own at d in
      let both = (own_has one).0 (at, lt, get_or_default own at one d lt) in
      let same : one ≡ record { function = f; place = one.place; candidate = one.candidate } = λ i. record { function = both.1 i; place = one.place; candidate = one.candidate } in
      let least : at ≤ at = omega arith in (
        after at d least lt,
        (one.candidate, subst (Contains entries) same both.0),
        λ e has function low.
            let (k, inside, is) = (own_has e).1 (has, function) in
            elim (cases_lt k at) [
              | inl less ↦ absurd (omega (arith, before k e less, ap (λ (x : Entry). x.place) is))
              | inr more ↦ omega (arith, own_places at k d more inside, ap (λ (x : Entry). x.place) (get_or_default own k d e inside ∙ is))
            ],
      )

  pub next_missing : length own ≤ at → (e : Entry) → Contains entries e → e.function ≡ f → from ≤ e.place → ⊥
  next_missing over e has function low =
      let (k, inside, is) = (own_has e).1 (has, function) in
      let less : k < at = omega arith in
      omega (arith, before k e less, ap (λ (x : Entry). x.place) is)
