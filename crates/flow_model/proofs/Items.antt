-- Items of lists: those that pass a test, and those of a first part.
use Rattle.std.proofs.Common.{◌≡◌, ℕ, ◌+◌, ◌<◌, ◌≤◌, ◌⊎◌, Bool, true, false, cond, List, [], ◌∷◌, ◌++◌, length, take, get_or, filter, Contains, None, sym, ap, ◌∙◌, subst, inl, inr, arith}
use Prim.Native.Nat.{zero, suc}
use Rattle.std.specs.Prelude.{slice_get}
use Rattle.std.proofs.lemmas.Bool.{cases_lt}
use Rattle.std.proofs.lemmas.List.{take_more}
use Rattle.std.proofs.lemmas.Option.{none-some, slice_get-get_or}
use Rattle.std.proofs.lemmas.List.Elements.{All-contains, All-filter, All-contains_itself, filter_passes, Contains-append_left, Contains-push, Contains-push_cases}
use Rattle.flow_model.specs.Growth.{HasOne}

module _ {X : Type 0} (p : X → Bool) where
  pub filter-contains : (xs : List X) (x : X) → Contains (filter p xs) x → Contains xs x
  filter-contains xs x has = All-contains (Contains xs) (filter p xs) x (All-filter p (Contains xs) xs (All-contains_itself xs)) has

  pub filter-pass : (xs : List X) (x : X) → Contains (filter p xs) x → p x ≡ true
  filter-pass xs x has = All-contains (λ y. p y ≡ true) (filter p xs) x (filter_passes p xs) has

  kept-after : (y : X) (ys : List X) (x : X) → Contains (filter p ys) x → Contains (filter p (y ∷ ys)) x
  kept-after y ys x has = elim (p y) as (λ b. Contains (cond b (y ∷ filter p ys) (filter p ys)) x) [
    | true ↦ (suc has.0, omega (arith, has.1), has.2)
    | false ↦ has
  ]

  pub contains-filter : (xs : List X) (x : X) (k : ℕ) → k < length xs → get_or xs k x ≡ x → p x ≡ true → Contains (filter p xs) x
  contains-filter [] x k lt is passes = absurd (omega arith)
  contains-filter (y ∷ ys) x zero lt is passes =
      subst (λ b. Contains (cond b (y ∷ filter p ys) (filter p ys)) x) (sym (ap p is ∙ passes)) (0, omega arith, is)
  contains-filter (y ∷ ys) x (suc k) lt is passes = kept-after y ys x (contains-filter ys x k (omega arith) is passes)

module _ {X : Type 0} (P : X → ℕ → Type 0) (xs : List X) where
  -- before the first item
  pub one_of_none : (b : ℕ) → HasOne P (take 0 xs) b → ⊥
  one_of_none b (x, has, is) = omega (arith, has.1)

  -- one item more
  pub one_of_more : (k : ℕ) (x : X) → k < length xs → x ≡ get_or xs k x → (b : ℕ) → HasOne P (take (k + 1) xs) b → HasOne P (take k xs) b ⊎ P x b
  one_of_more k x lt at b (y, has, is) = elim (Contains-push_cases (take k xs) (get_or xs k x) y (subst (λ ys. Contains ys y) (take_more xs k x lt) has)) [
    | inl before ↦ inl (y, before, is)
    | inr last ↦ inr (subst (λ z. P z b) (sym (at ∙ last)) is)
  ]

  pub one_before : (k : ℕ) (x : X) → k < length xs → (b : ℕ) → HasOne P (take k xs) b → HasOne P (take (k + 1) xs) b
  one_before k x lt b (y, has, is) = (y, subst (λ ys. Contains ys y) (sym (take_more xs k x lt)) (Contains-append_left (take k xs) _ y has), is)

  pub one_at : (k : ℕ) (x : X) → k < length xs → x ≡ get_or xs k x → (b : ℕ) → P x b → HasOne P (take (k + 1) xs) b
  one_at k x lt at b is = (x, subst (λ ys. Contains ys x) (sym (take_more xs k x lt)) (subst (λ z. Contains (take k xs ++ z ∷ []) x) at (Contains-push (take k xs) x)), is)

-- where there is no i-th node, i is not below the length
pub none_from : (xs : List ℕ) (i : ℕ) → slice_get xs i ≡ None → length xs ≤ i
none_from xs i none = elim (cases_lt i (length xs)) [
  | inl lt ↦ absurd (none-some (get_or xs i 0) (sym none ∙ slice_get-get_or xs i 0 lt))
  | inr ge ↦ ge
]
