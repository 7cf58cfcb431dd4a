-- The numbers that are noted under a key.
use Rattle.std.proofs.Common.{◌≡◌, ◌⊎◌, ◌↔◌, ℕ, Bool, true, false, nat_eq, List, [], ◌∷◌, ◌++◌, Contains, refl, sym, ◌∙◌, ap, subst, inl, inr}
use Rattle.std.proofs.lemmas.Bool.{eq-eqb, eqb-true}
use Rattle.std.proofs.lemmas.List.Elements.{Contains-append_left, Contains-push, Contains-push_cases}
use Rattle.certify_making.specs.contracts.notes.KeyPartialEq.TheImpl.{eq-value as key_eq}
use Rattle.certify_making.specs.declared.notes.Key.{Key}
use Rattle.certify_making.specs.declared.notes.Key.TheVariants.{Exits, Links}
use Rattle.certify.proofs.EndsLemmas.{both_true, both_hold}

key_exact : (x y : Key) → key_eq.it x y ≡ true → x ≡ y
key_exact (Exits i f) (Exits i' f') e =
    let (p, q) = both_true (nat_eq i i') (nat_eq f f') e in
    λ n. Exits (eqb-true i i' p n) (eqb-true f f' q n)
key_exact (Links i f) (Links i' f') e =
    let (p, q) = both_true (nat_eq i i') (nat_eq f f') e in
    λ n. Links (eqb-true i i' p n) (eqb-true f f' q n)
key_exact (Exits i f) (Links i' f') e = absurd cc
key_exact (Links i f) (Exits i' f') e = absurd cc

key_same : (x : Key) → key_eq.it x x ≡ true
key_same (Exits i f) = both_hold (nat_eq i i) (nat_eq f f) (eq-eqb i i refl) (eq-eqb f f refl)
key_same (Links i f) = both_hold (nat_eq i i) (nat_eq f f) (eq-eqb i i refl) (eq-eqb f f refl)

-- Whether two keys are one.
same_or_not : (a b : Key) → (a ≡ b) ⊎ (a ≡ b → ⊥)
same_or_not a b = by_test (key_eq.it a b) refl
  where
    by_test : (r : Bool) → key_eq.it a b ≡ r → (a ≡ b) ⊎ (a ≡ b → ⊥)
    by_test true is = inl (key_exact a b is)
    by_test false is = inr (λ same. let both : true ≡ false = sym (key_same a) ∙ ap (λ z. key_eq.it a z) same ∙ is in absurd cc)

-- What is noted, where the numbers of one key are taken out, one is added, and they are put in again.
module _ (Old Mid New : Key → ℕ → Type 0) (key : Key) (before after : List ℕ) (number : ℕ)
    (taken : (n : ℕ) → Contains before n ↔ Old key n) (left : (k : Key) (n : ℕ) → (k ≡ key → ⊥) → Mid k n ↔ Old k n)
    (pushed : after ≡ before ++ number ∷ [])
    (put : (n : ℕ) → New key n ↔ Contains after n) (kept : (k : Key) (n : ℕ) → (k ≡ key → ⊥) → New k n ↔ Mid k n) where
  at_key : (n : ℕ) → New key n ↔ (Old key n ⊎ ((key ≡ key) × (n ≡ number)))
  at_key n = (
    λ has. elim (Contains-push_cases before number n (subst (λ ns. Contains ns n) pushed ((put n).0 has))) as (λ _. Old key n ⊎ ((key ≡ key) × (n ≡ number))) [
      | inl was ↦ inl ((taken n).0 was)
      | inr same ↦ inr (refl, sym same)
    ],
    λ s. (put n).1 (subst (λ ns. Contains ns n) (sym pushed) (elim s as (λ _. Contains (before ++ number ∷ []) n) [
      | inl was ↦ Contains-append_left before (number ∷ []) n ((taken n).1 was)
      | inr here ↦ subst (Contains (before ++ number ∷ [])) (sym here.1) (Contains-push before number)
    ])),
  )

  at_others : (k : Key) (n : ℕ) → (k ≡ key → ⊥) → New k n ↔ (Old k n ⊎ ((k ≡ key) × (n ≡ number)))
  at_others k n differ = (
    λ has. inl ((left k n differ).0 ((kept k n differ).0 has)),
    λ s. elim s as (λ _. New k n) [ inl was ↦ (kept k n differ).1 ((left k n differ).1 was) | inr here ↦ absurd (differ here.0) ],
  )

  pub number_added : (k : Key) (n : ℕ) → New k n ↔ (Old k n ⊎ ((k ≡ key) × (n ≡ number)))
  number_added k n = elim (same_or_not k key) as (λ _. New k n ↔ (Old k n ⊎ ((k ≡ key) × (n ≡ number)))) [
    | inl same ↦ subst (λ j. New j n ↔ (Old j n ⊎ ((j ≡ key) × (n ≡ number)))) (sym same) (at_key n)
    | inr differ ↦ at_others k n differ
  ]
