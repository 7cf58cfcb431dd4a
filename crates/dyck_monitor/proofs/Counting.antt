-- How many edges leave the nodes that were looked at.
use Rattle.std.proofs.Common.{◌≡◌, ℕ, ◌+◌, ◌≤◌, Bool, true, false, cond, eqb, ltb, List, [], ◌∷◌, length, refl, arith}
use Rattle.std.specs.Prelude.{filter}
use Rattle.std.proofs.lemmas.Bool.{ltb-true, lt-ltb, eqb-true}

filter_cons : {X : Type 0} (p : X → Bool) (x : X) (xs : List X) → length (filter p (x ∷ xs)) ≡ cond (p x) 1 0 + length (filter p xs)
filter_cons p x xs = elim (p x) as (λ b. length (cond b (x ∷ filter p xs) (filter p xs)) ≡ cond b 1 0 + length (filter p xs)) [ true ↦ omega arith | false ↦ omega arith ]

-- Where no item passes both tests, and what passes either passes a third one, the two keep no more than the third.
apart_step : (p q r : Bool) → (p ≡ true → q ≡ true → ⊥) → (p ≡ true → r ≡ true) → (q ≡ true → r ≡ true) → cond p 1 0 + cond q 1 0 ≤ cond r 1 0
apart_step true true r apart first second = absurd (apart refl refl)
apart_step true false r apart first second = rw (first refl) (omega arith)
apart_step false true r apart first second = rw (second refl) (omega arith)
apart_step false false r apart first second = omega arith

pub filters_apart : {X : Type 0} (p q r : X → Bool) → ((x : X) → p x ≡ true → q x ≡ true → ⊥) → ((x : X) → p x ≡ true → r x ≡ true) → ((x : X) → q x ≡ true → r x ≡ true)
    → (xs : List X) → length (filter p xs) + length (filter q xs) ≤ length (filter r xs)
filters_apart p q r apart first second [] = omega arith
filters_apart p q r apart first second (x ∷ xs) =
    omega (arith, filter_cons p x xs, filter_cons q x xs, filter_cons r x xs, apart_step (p x) (q x) (r x) (apart x) (first x) (second x), filters_apart p q r apart first second xs)

cond_few : (b : Bool) → cond b 1 0 ≤ 1
cond_few true = omega arith
cond_few false = omega arith

-- a test keeps no more than there is
pub filter_few : {X : Type 0} (p : X → Bool) (xs : List X) → length (filter p xs) ≤ length xs
filter_few p [] = omega arith
filter_few p (x ∷ xs) = omega (arith, filter_cons p x xs, cond_few (p x), filter_few p xs)

-- items by a number: those below a number, and those at a later one
pub below_more_few : {X : Type 0} (number : X → ℕ) (from node : ℕ) → from ≤ node → (xs : List X) → length (filter (λ x. ltb (number x) from) xs) + length (filter (λ x. eqb (number x) node) xs) ≤ length (filter (λ x. ltb (number x) (node + 1)) xs)
below_more_few number from node le xs =
    filters_apart (λ x. ltb (number x) from) (λ x. eqb (number x) node) (λ x. ltb (number x) (node + 1))
    (λ x less same. omega (arith, ltb-true (number x) from less, eqb-true (number x) node same))
    (λ x less. lt-ltb (number x) (node + 1) (omega (arith, ltb-true (number x) from less)))
    (λ x same. lt-ltb (number x) (node + 1) (omega (arith, eqb-true (number x) node same))) xs
