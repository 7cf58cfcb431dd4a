-- What is in a sorted list.
use Rattle.std.proofs.Common.{◌≡◌, List, [], ◌∷◌, Contains, ◌⊎◌, inl, inr, sym, subst, refl, arith}
use Rattle.std.specs.declared.cmp.Ordering.{Ordering}
use Rattle.std.specs.declared.cmp.Ordering.TheVariants.{Less, Equal, Greater}
use Rattle.c_meaning.specs.Sorted.{placed, insert, sorted}
use Rattle.c_meaning.proofs.Edges.{first_or, none_of}
use Rattle.c_meaning.proofs.Members.{is_first, is_later, cases}

place_has : {X : Type 0} (o : Ordering) (x y : X) (ys inside : List X) → (o ≡ Equal → x ≡ y) → Contains inside x → Contains (placed o x y ys inside) x
place_has Less x y ys inside ties has = is_first x (y ∷ ys)
place_has Equal x y ys inside ties has = (0, omega arith, sym (ties refl))
place_has Greater x y ys inside ties has = is_later y inside x has

place_keeps : {X : Type 0} (o : Ordering) (x y : X) (ys inside : List X) (z : X) → Contains (y ∷ ys) z → (Contains ys z → Contains inside z) → Contains (placed o x y ys inside) z
place_keeps Less x y ys inside z has keeps = is_later x (y ∷ ys) z has
place_keeps Equal x y ys inside z has keeps = has
place_keeps Greater x y ys inside z has keeps = first_or (λ z. Contains (y ∷ inside) z) y ys z has (is_first y inside) (λ h. is_later y inside z (keeps h))

first_tail : {X : Type 0} (x y : X) (ys inside : List X) (z : X) → ((y ≡ z) ⊎ Contains inside z) → (Contains inside z → (x ≡ z) ⊎ Contains ys z) → (x ≡ z) ⊎ Contains (y ∷ ys) z
first_tail x y ys inside z (inl is) new = inr (0, omega arith, is)
first_tail x y ys inside z (inr has) new = elim (new has) as (λ h. (x ≡ z) ⊎ Contains (y ∷ ys) z) [ inl is ↦ inl is | inr old ↦ inr (is_later y ys z old) ]

place_from : {X : Type 0} (o : Ordering) (x y : X) (ys inside : List X) (z : X) → Contains (placed o x y ys inside) z → (Contains inside z → (x ≡ z) ⊎ Contains ys z) → (x ≡ z) ⊎ Contains (y ∷ ys) z
place_from Less x y ys inside z has new = cases x (y ∷ ys) z has
place_from Equal x y ys inside z has new = inr has
place_from Greater x y ys inside z has new = first_tail x y ys inside z (cases y inside z has) new

module _ {X : Type 0} (order : X → X → Ordering) where
  -- x is the only item of the list that the order ties with it
  abbrev Alone : X → List X → Type 0
  Alone x ys = (y : X) → Contains ys y → order x y ≡ Equal → x ≡ y

  insert_has : (x : X) (ys : List X) → Alone x ys → Contains (insert order x ys) x
  insert_has x [] ties = is_first x []
  insert_has x (y ∷ ys) ties = place_has (order x y) x y ys (insert order x ys) (ties y (is_first y ys)) (insert_has x ys (λ z h. ties z (is_later y ys z h)))

  insert_keeps : (x : X) (ys : List X) (z : X) → Contains ys z → Contains (insert order x ys) z
  insert_keeps x [] z h = none_of (λ z. Contains (insert order x []) z) z h
  insert_keeps x (y ∷ ys) z h = place_keeps (order x y) x y ys (insert order x ys) z h (λ k. insert_keeps x ys z k)

  pub insert_from : (x : X) (ys : List X) (z : X) → Contains (insert order x ys) z → (x ≡ z) ⊎ Contains ys z
  insert_from x [] z h = cases x [] z h
  insert_from x (y ∷ ys) z h = place_from (order x y) x y ys (insert order x ys) z h (λ k. insert_from x ys z k)

  pub sorted_from : (xs : List X) (z : X) → Contains (sorted order xs) z → Contains xs z
  sorted_from [] z h = h
  sorted_from (x ∷ xs) z h = elim (insert_from x (sorted order xs) z h) as (λ k. Contains (x ∷ xs) z) [ inl is ↦ (0, omega arith, is) | inr k ↦ is_later x xs z (sorted_from xs z k) ]

  -- the order ties only what is equal
  abbrev pub Ties : List X → Type 0
  Ties xs = (x y : X) → Contains xs x → Contains xs y → order x y ≡ Equal → x ≡ y

  pub sorted_has : (xs : List X) → Ties xs → (z : X) → Contains xs z → Contains (sorted order xs) z
  sorted_has [] ties z h = h
  sorted_has (x ∷ xs) ties z h =
      elim (cases x xs z h) as (λ k. Contains (insert order x (sorted order xs)) z) [
        | inl is ↦ subst (λ z. Contains (insert order x (sorted order xs)) z) is (insert_has x (sorted order xs) (λ y k e. ties x y (is_first x xs) (is_later x xs y (sorted_from xs y k)) e))
        | inr k ↦ insert_keeps x (sorted order xs) z (sorted_has xs (λ a b h k e. ties a b (is_later x xs a h) (is_later x xs b k) e) z k)
      ]
