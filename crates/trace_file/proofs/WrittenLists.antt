-- The items of a list, written one after another.
use Rattle.std.proofs.Common.{◌≡◌, ◌<◌, ◌≤◌, ℕ, ◌+◌, List, [], ◌∷◌, ◌++◌, length, take, get_or, flat_map, sym, ◌∙◌, ap, subst, append_assoc, inl, inr, arith}
use Rattle.std.specs.Prelude.{All}
use Rattle.std.proofs.lemmas.List.{append-nil, take_more, take_all, get_or_default}
use Rattle.std.proofs.lemmas.Grind.{flat_map-append}
use Rattle.std.proofs.lemmas.Bool.{cases_lt}

module _ {X : Type 0} (xs : List X) (i : ℕ) (x : X) where
  -- the text with one item more
  pub written_more : (f : X → List ℕ) (start old new : List ℕ) → i < length xs → x ≡ get_or xs i x → old ≡ start ++ flat_map f (take i xs) → new ≡ old ++ f x → new ≡ start ++ flat_map f (take (i + 1) xs)
  written_more f start old new lt is before step =
      let more : take (i + 1) xs ≡ take i xs ++ x ∷ [] = take_more xs i x lt ∙ ap (λ y. take i xs ++ y ∷ []) (sym is) in
      step
      ∙ ap (λ ys. ys ++ f x) before
      ∙ append_assoc start (flat_map f (take i xs)) (f x)
      ∙ ap (λ ys. start ++ ys) (ap (λ ys. flat_map f (take i xs) ++ ys) (sym (append-nil (f x))) ∙ sym (flat_map-append f (take i xs) (x ∷ [])) ∙ ap (flat_map f) (sym more))

  -- what each item before has, and this one, each has up to here
  pub each_more : (P : X → Type 0) → i < length xs → x ≡ get_or xs i x → ((k : ℕ) (d : X) → k < i → P (get_or xs k d)) → P x → (k : ℕ) (d : X) → k < i + 1 → P (get_or xs k d)
  each_more P lt is before this k d le = elim (cases_lt k i) as (λ _. P (get_or xs k d)) [
    | inl less ↦ before k d less
    | inr more ↦
        let here : i ≡ k = omega arith in
        subst (λ j. P (get_or xs j d)) here (subst P (is ∙ get_or_default xs i x d lt) this)
  ]

-- once all items are written
module _ {X : Type 0} (xs : List X) (i : ℕ) (over : length xs ≤ i) where
  pub written_all : (f : X → List ℕ) (start new : List ℕ) → new ≡ start ++ flat_map f (take i xs) → new ≡ start ++ flat_map f xs
  written_all f start new is = is ∙ ap (λ ys. start ++ flat_map f ys) (take_all i xs over)

  pub each_all : (P : X → Type 0) → ((k : ℕ) (d : X) → k < i → P (get_or xs k d)) → All P xs
  each_all P before k d lt = before k d (omega arith)
