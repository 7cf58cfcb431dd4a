-- A list without a number, which is shorter where it has the number.
use Rattle.std.proofs.Common.{◌≡◌, ◌≢◌, ℕ, zero, suc, ◌<◌, ◌≤◌, Bool, true, false, nat_eq, List, [], ◌∷◌, length, refl, sym, ◌∙◌, subst, Contains, arith}
use Rattle.std.specs.Prelude.{if◌then◌else◌}
use Rattle.std.proofs.lemmas.Bool.{eqb-true, eq-eqb}

unfoldable pub without : ℕ → List ℕ → List ℕ
without n [] = []
without n (x ∷ xs) = if nat_eq x n then without n xs else x ∷ without n xs

pub without_le : (n : ℕ) (xs : List ℕ) → length (without n xs) ≤ length xs
unfolding without
without_le n [] = omega arith
without_le n (x ∷ xs) =
    let more = without_le n xs in
    elim (nat_eq x n) as (λ (t : Bool). length (if t then without n xs else x ∷ without n xs) ≤ suc (length xs)) [ true ↦ omega arith | false ↦ omega arith ]

pub without_less : (n : ℕ) (xs : List ℕ) → Contains xs n → length (without n xs) < length xs
unfolding without
without_less n [] (k, within, is) = absurd (omega (arith, within))
without_less n (x ∷ xs) (zero, within, is) =
    let more = without_le n xs in
    subst (λ (t : Bool). length (if t then without n xs else x ∷ without n xs) < suc (length xs)) (sym (eq-eqb x n is)) (omega arith)
without_less n (x ∷ xs) (suc k, within, is) =
    let more = without_less n xs (k, omega (arith, within), is) in
    elim (nat_eq x n) as (λ (t : Bool). length (if t then without n xs else x ∷ without n xs) < suc (length xs)) [ true ↦ omega arith | false ↦ omega arith ]

pub in_without : (n y : ℕ) (xs : List ℕ) → y ≢ n → Contains xs y → Contains (without n xs) y
unfolding without
in_without n y [] other (k, within, is) = absurd (omega (arith, within))
in_without n y (x ∷ xs) other (zero, within, is) = by_test (nat_eq x n) refl where
  by_test : (t : Bool) → nat_eq x n ≡ t → Contains (if t then without n xs else x ∷ without n xs) y
  by_test true same = absurd (other (sym is ∙ eqb-true x n same))
  by_test false same = (0, omega arith, is)
in_without n y (x ∷ xs) other (suc k, within, is) =
    let more = in_without n y xs other (k, omega (arith, within), is) in
    elim (nat_eq x n) as (λ (t : Bool). Contains (if t then without n xs else x ∷ without n xs) y) [
      | true ↦ more
      | false ↦ (suc more.0, omega (arith, more.1), more.2)
    ]
