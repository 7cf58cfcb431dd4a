-- Arguments fit a pattern, from a place on.
use Rattle.std.proofs.Common.{◌≡◌, ℕ, zero, suc, ◌+◌, ℤ, List, [], ◌∷◌, Option, Some, None, drop, refl, add-one, slice_get}
use Rattle.std.proofs.lemmas.List.{drop-drop}
use Rattle.std.specs.Option.{option_to_list}
use Rattle.dm_base.specs.declared.event.Arg.{Arg}
use Rattle.dm_base.specs.Fits.{FitArguments}

-- an entry and its argument, and the rest
FitArguments-cons : (entry : Option ℤ) (pattern : List (Option ℤ)) (arguments : List Arg) → FitArguments (entry ∷ []) (option_to_list (slice_get arguments 0)) → FitArguments pattern (drop 1 arguments) → FitArguments (entry ∷ pattern) arguments
FitArguments-cons entry pattern [] here rest = tt
FitArguments-cons None pattern (argument ∷ arguments) here rest = rest
FitArguments-cons (Some n) pattern (argument ∷ arguments) here rest = (here.0, rest)

FitArguments-head : (entry : Option ℤ) (pattern : List (Option ℤ)) (arguments : List Arg) → FitArguments (entry ∷ pattern) arguments → FitArguments (entry ∷ []) (option_to_list (slice_get arguments 0))
FitArguments-head entry pattern [] fit = tt
FitArguments-head None pattern (argument ∷ arguments) fit = tt
FitArguments-head (Some n) pattern (argument ∷ arguments) fit = (fit.0, tt)

FitArguments-none : (pattern : List (Option ℤ)) → FitArguments pattern []
FitArguments-none [] = tt
FitArguments-none (entry ∷ pattern) = tt

FitArguments-tail : (entry : Option ℤ) (pattern : List (Option ℤ)) (arguments : List Arg) → FitArguments (entry ∷ pattern) arguments → FitArguments pattern (drop 1 arguments)
FitArguments-tail entry pattern [] fit = FitArguments-none pattern
FitArguments-tail None pattern (argument ∷ arguments) fit = fit
FitArguments-tail (Some n) pattern (argument ∷ arguments) fit = fit.1

drop-get : {X : Type 0} (xs : List X) (i : ℕ) (x : X) → slice_get xs i ≡ Some x → drop i xs ≡ x ∷ drop (suc i) xs
drop-get [] i x e = cc
drop-get (y ∷ xs) zero x e = cc
drop-get (y ∷ xs) (suc i) x e = drop-get xs i x e

get-drop : {X : Type 0} (xs : List X) (i : ℕ) → slice_get (drop i xs) 0 ≡ slice_get xs i
get-drop [] zero = refl
get-drop [] (suc i) = refl
get-drop (x ∷ xs) zero = refl
get-drop (x ∷ xs) (suc i) = get-drop xs i

module _ (pattern : List (Option ℤ)) (arguments : List Arg) (i : ℕ) (entry : Option ℤ) (argument : Option Arg) (expected : slice_get pattern i ≡ Some entry) (recorded : argument ≡ slice_get arguments i) where
  pub FitArguments-here : FitArguments (drop i pattern) (drop i arguments) → FitArguments (entry ∷ []) (option_to_list argument)
  FitArguments-here fit = rw recorded (rw get-drop at (FitArguments-head entry (drop (suc i) pattern) (drop i arguments) (rw (drop-get pattern i entry expected) at fit)))

  pub FitArguments-next : FitArguments (drop i pattern) (drop i arguments) → FitArguments (drop (i + 1) pattern) (drop (i + 1) arguments)
  FitArguments-next fit = rw add-one (rw (drop-drop, add-one) at (FitArguments-tail entry (drop (suc i) pattern) (drop i arguments) (rw (drop-get pattern i entry expected) at fit)))

  pub FitArguments-before : FitArguments (entry ∷ []) (option_to_list argument) → FitArguments (drop (i + 1) pattern) (drop (i + 1) arguments) → FitArguments (drop i pattern) (drop i arguments)
  FitArguments-before here rest = rw (drop-get pattern i entry expected) (FitArguments-cons entry (drop (suc i) pattern) (drop i arguments) (rw (get-drop, ← recorded) here) (rw (drop-drop, add-one) (rw add-one at rest)))
