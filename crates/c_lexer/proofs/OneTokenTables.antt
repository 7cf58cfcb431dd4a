-- The tables of words: no two rows of one are the same.
use Rattle.std.proofs.Common.{◌≡◌, ℕ, zero, suc, List, [], ◌∷◌, Bool, true, false, not, refl, sym, ap, ◌∙◌, Some, ◌&&◌, ◌||◌}
use Rattle.std.specs.List.{slice_get}
use Rattle.std.proofs.lemmas.Bool.{and_parts, not-true}
use Rattle.c_lexer.specs.Words.{keywords, punctuators}
use Rattle.c_lexer.proofs.WordTables.{is_among, among_false, number_Contains}

pub or_right : (a b : Bool) → b ≡ true → (a || b) ≡ true
or_right true b e = refl
or_right false b e = e

-- whether no two rows are the same
abbrev rows_apart : List (List ℕ) → Bool
rows_apart [] = true
rows_apart (x ∷ table) = not (is_among table x) && rows_apart table

no_later_row : (table : List (List ℕ)) (k : ℕ) (x w : List ℕ) → not (is_among table x) ≡ true → x ≡ w → slice_get table k ≡ Some w → ⊥
no_later_row table k x w none same at = among_false table x (not-true (is_among table x) none) (number_Contains table k x (at ∙ ap Some (sym same)))

pub one_row : (table : List (List ℕ)) (j k : ℕ) (w : List ℕ) → rows_apart table ≡ true → slice_get table j ≡ Some w → slice_get table k ≡ Some w → j ≡ k
one_row [] j k w apart at at' = cc
one_row (x ∷ table) zero zero w apart at at' = refl
one_row (x ∷ table) zero (suc k) w apart at at' = let same : x ≡ w = cc in absurd (no_later_row table k x w (and_parts (not (is_among table x)) (rows_apart table) apart).0 same at')
one_row (x ∷ table) (suc j) zero w apart at at' = let same : x ≡ w = cc in absurd (no_later_row table j x w (and_parts (not (is_among table x)) (rows_apart table) apart).0 same at)
one_row (x ∷ table) (suc j) (suc k) w apart at at' = ap suc (one_row table j k w (and_parts (not (is_among table x)) (rows_apart table) apart).1 at at')

pub one_keyword : (j k : ℕ) (w : List ℕ) → slice_get keywords j ≡ Some w → slice_get keywords k ≡ Some w → j ≡ k
unfolding keywords
one_keyword j k w at at' = one_row keywords j k w refl at at'

pub one_punctuator : (j k : ℕ) (w : List ℕ) → slice_get punctuators j ≡ Some w → slice_get punctuators k ≡ Some w → j ≡ k
unfolding punctuators
one_punctuator j k w at at' = one_row punctuators j k w refl at at'
