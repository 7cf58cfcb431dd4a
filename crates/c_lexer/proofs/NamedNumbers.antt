-- Each number of a list of named ones is found at its place where the two lists that the names make are equal.
use Rattle.std.proofs.Common.{◌≡◌, ◌<◌, ℕ, zero, suc, List, [], ◌∷◌, length, get_or, map, Some, slice_get, arith}
use Rattle.c_lexer.specs.Names.{Named, AreNumbersIn}

at_place : (words : List (List ℕ)) (xs : List Named) (k : ℕ) (d : Named) → map (λ (x : Named). slice_get words x.number) xs ≡ map (λ (x : Named). Some x.text) xs → k < length xs → slice_get words (get_or xs k d).number ≡ Some (get_or xs k d).text
at_place words [] k d same below = absurd (omega arith)
at_place words (x ∷ xs) zero d same below = let first : slice_get words x.number ≡ Some x.text = cc in first
at_place words (x ∷ xs) (suc k) d same below = let rest : map (λ (y : Named). slice_get words y.number) xs ≡ map (λ (y : Named). Some y.text) xs = cc in at_place words xs k d rest (omega arith)

pub numbers_in : (words : List (List ℕ)) (xs : List Named) → map (λ (x : Named). slice_get words x.number) xs ≡ map (λ (x : Named). Some x.text) xs → AreNumbersIn words xs
numbers_in words xs same k d below = at_place words xs k d same below
