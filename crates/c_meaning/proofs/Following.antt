-- Parts of a run that follow one another.
use Rattle.std.proofs.Common.{◌≡◌, List, [], ◌++◌, ap, refl, append_assoc, append-nil}
use Rattle.dm_base.specs.declared.event.Event.{Event}
use Rattle.c_meaning.specs.Results.{State, Result, Go, Stop, after, then_do}

pub after_none : {A : Type 0} (r : Result A) → after [] r ≡ r
after_none (Go a st w) = refl
after_none (Stop o w) = refl

pub after_after : {A : Type 0} (w u : List Event) (r : Result A) → after (w ++ u) r ≡ after w (after u r)
after_after w u (Go a st z) = ap (λ u. Go a st u) (append_assoc w u z)
after_after w u (Stop o z) = ap (λ u. Stop o u) (append_assoc w u z)

-- what gives its value and no event adds nothing
pub then_nothing : {A : Type 0} (r : Result A) → then_do r (λ a st. Go a st []) ≡ r
then_nothing (Go a st w) = ap (λ u. Go a st u) (append-nil w)
then_nothing (Stop o w) = refl

pub then_after : {A B : Type 0} (w : List Event) (r : Result A) (f : A → State → Result B) → then_do (after w r) f ≡ after w (then_do r f)
then_after w (Go a st u) f = after_after w u (f a st)
then_after w (Stop o u) f = refl

pub then_assoc : {A B C : Type 0} (r : Result A) (f : A → State → Result B) (g : B → State → Result C) → then_do (then_do r f) g ≡ then_do r (λ a st. then_do (f a st) g)
then_assoc (Go a st w) f g = then_after w (f a st) g
then_assoc (Stop o w) f g = refl
