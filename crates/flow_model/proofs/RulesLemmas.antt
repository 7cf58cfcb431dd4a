-- Lemmas on the rules of a model.
use Rattle.std.proofs.Common.{◌≡◌, ◌↔◌, ℕ, zero, suc, ◌+◌, ◌<◌, Bool, true, false, IsTrue, List, [], ◌∷◌, length, get_or, ltb, All, AllPairs, MatchBool, refl, arith, inl, inr, add-one}
use Rattle.std.proofs.lemmas.Bool.{cases_lt, false≢true}
use Rattle.std.proofs.lemmas.Iterator.Search.{true_from_All}
use Rattle.std.proofs.lemmas.List.Elements.{All-from_all_within}
use Rattle.std.specs.List.Sorted.{IsNonDecreasingBy}
use Rattle.std.specs.List.{AllAdjacentBelow, AllWithin, HoldsAt, IsAllAdjacentAnswer}

-- where each number is below the next one, each is below all later ones
rise_from_neighbours : {X : Type 0} (n : X → ℕ) (xs : List X) → AllAdjacentBelow (λ x y. n x < n y) xs (length xs) → AllPairs (λ x y. n x < n y) xs
rise_from_neighbours n xs near i zero d before within = absurd (omega arith)
rise_from_neighbours n xs near i (suc j) d before within =
    let step : n (get_or xs j d) < n (get_or xs (suc j) d) = rw (add-one j) at (near j d (omega arith)) in
    elim (cases_lt i j) [
      | inl less ↦ omega (arith, rise_from_neighbours n xs near i j d less (omega arith))
      | inr least ↦ let e : i ≡ j = omega arith in rw e step
    ]

-- a test of all neighbours tells whether each number is below all later ones
pub rise_decides : {X : Type 0} (n : X → ℕ) (xs : List X) (r : Bool) → IsAllAdjacentAnswer (λ x y b. b ≡ ltb (n x) (n y)) xs r → IsTrue r ↔ AllPairs (λ x y. n x < n y) xs
rise_decides n xs true h = (λ _. rise_from_neighbours n xs (λ k d fits. grind (arith, h k d fits)), λ _. refl)
rise_decides n [] false h = absurd (omega arith)
rise_decides n (x ∷ xs) false h =
    (λ e. absurd (false≢true e), λ rise. absurd (grind (arith, h.2 x, rise h.0 (h.0 + 1) x (omega arith) h.1)))

-- a test of all elements tells whether each has the property
pub all_decides : {X : Type 0} (P : X → Type 0) (xs : List X) (r : Bool) → MatchBool r (AllWithin P xs 0 (length xs)) ((k : ℕ) × (k < length xs) × HoldsAt (λ x. P x → ⊥) xs k) → IsTrue r ↔ All P xs
all_decides P xs true h = (λ _. All-from_all_within P xs h, λ _. refl)
all_decides P xs false h = (λ e. absurd (false≢true e), true_from_All P (λ x. P x → ⊥) false xs (λ x p no. no p) h)

-- numbers of which each is below all later ones don't fall
pub non_decreasing_from_rise : {X : Type 0} (n : X → ℕ) (xs : List X) → AllPairs (λ x y. n x < n y) xs → IsNonDecreasingBy n xs
non_decreasing_from_rise n xs rise i j d least within =
    elim (cases_lt i j) [
      | inl less ↦ omega (arith, rise i j d less within)
      | inr most ↦ let e : i ≡ j = omega arith in rw e (omega arith)
    ]
