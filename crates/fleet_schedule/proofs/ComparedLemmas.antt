-- Two lists of lines that stand first in one text.
use Rattle.std.proofs.Common.{◌≡◌, List, [], ◌∷◌, ◌++◌, ℕ, refl, sym, ◌∙◌, ap, inl, inr, append_assoc, All}
use Rattle.std.specs.Prelude.{◌⊎◌, flat_map}
use Rattle.std.proofs.lemmas.List.Elements.{All-head, All-tail}

module _ {V : Type 0} (Fits : V → Type 0) (line : V → List ℕ) where
  -- a line tells its value, and what follows it
  abbrev pub IsTold : Type 0
  IsTold = (v w : V) (x y : List ℕ) → Fits v → Fits w → line v ++ x ≡ line w ++ y → (v ≡ w) × (x ≡ y)

  -- the longer list has this line after those of the shorter one, and it stands first in what is left of the shorter one
  pub record HasMore (shorter longer : List V) (rest tail : List ℕ) : Type 0 where
    pub next : V
    pub later : List V
    pub fits : Fits next
    pub is : longer ≡ shorter ++ next ∷ later
    pub stands : rest ≡ line next ++ (flat_map line later ++ tail)

  -- the lists are the same, or one goes on after the other
  abbrev pub Compared : List V → List V → List ℕ → List ℕ → Type 0
  Compared xs ys rest tail = ((xs ≡ ys) × (rest ≡ tail)) ⊎ (HasMore xs ys rest tail ⊎ HasMore ys xs tail rest)

  pub compare : IsTold → (xs ys : List V) (rest tail : List ℕ) → All Fits xs → All Fits ys → flat_map line xs ++ rest ≡ flat_map line ys ++ tail → Compared xs ys rest tail
  compare told [] [] rest tail in_xs in_ys is = inl (refl, is)
  compare told [] (y ∷ ys) rest tail in_xs in_ys is =
      inr (inl (record { next = y; later = ys; fits = All-head Fits y ys in_ys; is = refl; stands = is ∙ append_assoc (line y) (flat_map line ys) tail }))
  compare told (x ∷ xs) [] rest tail in_xs in_ys is =
      inr (inr (record { next = x; later = xs; fits = All-head Fits x xs in_xs; is = refl; stands = sym is ∙ append_assoc (line x) (flat_map line xs) rest }))
  compare told (x ∷ xs) (y ∷ ys) rest tail in_xs in_ys is =
      let first = told x y (flat_map line xs ++ rest) (flat_map line ys ++ tail) (All-head Fits x xs in_xs) (All-head Fits y ys in_ys) (sym (append_assoc (line x) (flat_map line xs) rest) ∙ is ∙ append_assoc (line y) (flat_map line ys) tail) in
      after_same x y xs ys rest tail first.0 (compare told xs ys rest tail (All-tail Fits x xs in_xs) (All-tail Fits y ys in_ys) first.1)
    where
      after_same : (x y : V) (xs ys : List V) (rest tail : List ℕ) → x ≡ y → Compared xs ys rest tail → Compared (x ∷ xs) (y ∷ ys) rest tail
      after_same x y xs ys rest tail same (inl (alike, ends)) = inl (ap (λ (v : V). v ∷ xs) same ∙ ap (λ (l : List V). y ∷ l) alike, ends)
      after_same x y xs ys rest tail same (inr (inl more)) = inr (inl (record { next = more.next; later = more.later; fits = more.fits; is = ap (λ (v : V). v ∷ ys) (sym same) ∙ ap (λ (l : List V). x ∷ l) more.is; stands = more.stands }))
      after_same x y xs ys rest tail same (inr (inr more)) = inr (inr (record { next = more.next; later = more.later; fits = more.fits; is = ap (λ (v : V). v ∷ xs) same ∙ ap (λ (l : List V). y ∷ l) more.is; stands = more.stands }))
