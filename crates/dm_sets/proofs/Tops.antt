-- The last of a list that is kept in the other order.
use Rattle.std.proofs.Common.{◌≡◌, ℕ, ◌+◌, ◌-◌, ◌<◌, ◌≤◌, List, [], ◌∷◌, ◌++◌, Option, Some, None, length, get_or, take, reverse, sym, ap, ◌∙◌, inl, inr, arith}
use Rattle.std.specs.Prelude.{IfSome, slice_get}
use Rattle.std.proofs.lemmas.Bool.{cases_lt}
use Rattle.std.proofs.lemmas.List.{reverse-append, take_more, take_all}
use Rattle.std.proofs.lemmas.Option.{get_or_from_slice_get, slice_get_past}

-- the first of the reversed list
top_of : (xs : List ℕ) (x : ℕ) → length xs - 1 < length xs → get_or xs (length xs - 1) x ≡ x → reverse xs ≡ x ∷ reverse (take (length xs - 1) xs)
top_of xs x lt is =
    let n = length xs - 1 in
    let whole : length xs ≤ n + 1 = omega arith in
    ap reverse (sym (take_all (n + 1) xs whole) ∙ take_more xs n x lt ∙ ap (λ y. take n xs ++ y ∷ []) is) ∙ reverse-append (take n xs) (x ∷ [])

pub top_is : (xs : List ℕ) (r : Option ℕ) → r ≡ slice_get xs (length xs - 1) → IfSome r (λ item. (rest : List ℕ) × (reverse xs ≡ item ∷ rest))
top_is xs None is = tt
top_is xs (Some x) is = elim (cases_lt (length xs - 1) (length xs)) [
  | inl lt ↦ (reverse (take (length xs - 1) xs), top_of xs x lt (get_or_from_slice_get xs (length xs - 1) x x (sym is)))
  | inr past ↦ let e : Some x ≡ None = is ∙ slice_get_past xs (length xs - 1) past in absurd (cc)
]
