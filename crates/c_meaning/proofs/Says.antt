-- What a part of a program does, beside its shape: one lemma for each way to put parts together.
use Rattle.std.proofs.Common.{◌≡◌, Bool, true, false, List, [], ◌∷◌, ◌++◌, sym, ap, ◌∙◌, subst, refl, append_assoc, append-nil}
use Rattle.dm_base.specs.declared.event.Event.{Event}
use Rattle.c_tree.specs.declared.value.Value.{Value}
use Rattle.c_meaning.specs.Answers.{Answer, gives, undefined}
use Rattle.c_meaning.specs.Memory.{Objects}
use Rattle.c_meaning.specs.Meaning.{either, tested}
use Rattle.c_meaning.specs.Pointers.{test}
use Rattle.c_meaning.specs.Results.{State, Result, Go, Stop, after, then_do, spend_at, answered, remembered, Exit, on, broken, continued, returned, on_exit}
use Rattle.std.specs.Prelude.{ℕ, zero, suc}
use Rattle.c_meaning.specs.Shape.{Shape, Skip, Alt, Parts, End, Part, Shapes, Leave, goes_on, breaks, continues, returns}
use Rattle.c_meaning.specs.Words.{Marks, Whole, Falls, Front}
use Rattle.c_meaning.specs.Words as F
use Rattle.c_meaning.specs.ShapeOf.{seq, seq_two, alt}
use Rattle.c_meaning.proofs.Words.{Stands, here, inside, beyond, one_falls, one_stands, seq_whole, seq_front}

-- of each event, what a language reads
abbrev pub told : (Event → List Event) → List Event → List Event
told keep [] = []
told keep (e ∷ w) = keep e ++ told keep w

pub told_append : (keep : Event → List Event) (w u : List Event) → told keep (w ++ u) ≡ told keep w ++ told keep u
told_append keep [] u = refl
told_append keep (e ∷ w) u = ap (λ z. keep e ++ z) (told_append keep w u) ∙ sym (append_assoc (keep e) (told keep w) (told keep u))

pub split : (keep : Event → List Event) (w z u : List Event) → told keep (w ++ z) ++ u ≡ told keep w ++ (told keep z ++ u)
split keep w z u = ap (λ t. t ++ u) (told_append keep w z) ∙ append_assoc (told keep w) (told keep z) u

-- where a part goes on, this is so
abbrev pub Gives : {A : Type 0} → (A → State → Type 0) → Result A → Type 0
Gives P (Go a st w) = P a st
Gives P (Stop o w) = Unit {0}

pub gives_any : {A : Type 0} (P : A → State → Type 0) (r : Result A) → ((a : A) (st : State) → P a st) → Gives {A = A} P r
gives_any P (Go a st w) h = h a st
gives_any P (Stop o w) h = tt

pub gives_both : {A : Type 0} (P Q : A → State → Type 0) (r : Result A) → Gives {A = A} P r → Gives {A = A} Q r → Gives {A = A} (λ a st. P a st × Q a st) r
gives_both P Q (Go a st w) h k = (h, k)
gives_both P Q (Stop o w) h k = tt

pub after_gives : {A : Type 0} (P : A → State → Type 0) (w : List Event) (r : Result A) → Gives {A = A} P r → Gives {A = A} P (after w r)
after_gives P w (Go a st z) h = h
after_gives P w (Stop o z) h = tt

pub then_gives : {A B : Type 0} (P : A → State → Type 0) (Q : B → State → Type 0) (r : Result A) (f : A → State → Result B) → Gives {A = A} P r → ((a : A) (st : State) → P a st → Gives {A = B} Q (f a st)) → Gives {A = B} Q (then_do r f)
then_gives P Q (Go a st w) f h k = after_gives Q w (f a st) (k a st h)
then_gives P Q (Stop o w) f h k = tt

pub answered_gives : {A : Type 0} (P : State → Type 0) (x : Answer A) (st : State) → P st → Gives {A = A} (λ a u. P u) (answered x st)
answered_gives P (gives a) st h = h
answered_gives P (undefined kind) st h = tt

pub tested_gives : (P : State → Type 0) (r : Result Value) → Gives {A = Value} (λ v st. P st) r → Gives {A = Bool} (λ b st. P st) (tested r)
tested_gives P r h =
    then_gives {A = Value} {B = Bool} (λ v st. P st) (λ b st. P st) r _ h (λ v st i. answered_gives {A = Bool} P (test st.memory v) st i)

-- where a part goes on, its events are read whole; where it stops, they are read in front
abbrev pub Tells : (Event → List Event) → {A : Type 0} → (A → Leave) → (Leave → List Event → List Event → Type 0) → (List Event → List Event → Type 0) → Result A → Type 0
Tells keep by W F (Go a st w) = (u : List Event) → W (by a) (told keep w ++ u) u
Tells keep by W F (Stop o w) = (u : List Event) → F (told keep w ++ u) u

-- how a statement is left
abbrev pub left_by : Exit → Leave
left_by on = goes_on
left_by broken = breaks
left_by continued = continues
left_by (returned v) = returns

abbrev pub Straight : {A : Type 0} → A → Leave
Straight a = goes_on

module _ (keep : Event → List Event) where
  pub change_tells : {A : Type 0} (by : A → Leave) (W X : Leave → List Event → List Event → Type 0) (F G : List Event → List Event → Type 0) (r : Result A) → ((x : Leave) (t u : List Event) → W x t u → X x t u) → ((t u : List Event) → F t u → G t u) → Tells keep {A = A} by W F r → Tells keep {A = A} by X G r
  change_tells by W X F G (Go a st w) up front h = λ u. up (by a) (told keep w ++ u) u (h u)
  change_tells by W X F G (Stop o w) up front h = λ u. front (told keep w ++ u) u (h u)

  pub after_tells : {A : Type 0} (by : A → Leave) (W X : Leave → List Event → List Event → Type 0) (F G : List Event → List Event → Type 0) (w : List Event) (r : Result A) → ((x : Leave) (t u : List Event) → W x t u → X x (told keep w ++ t) u) → ((t u : List Event) → F t u → G (told keep w ++ t) u) → Tells keep {A = A} by W F r → Tells keep {A = A} by X G (after w r)
  after_tells by W X F G w (Go a st z) up front h =
      λ u. subst (λ t. X (by a) t u) (sym (split keep w z u)) (up (by a) (told keep z ++ u) u (h u))
  after_tells by W X F G w (Stop o z) up front h =
      λ u. subst (λ t. G t u) (sym (split keep w z u)) (front (told keep z ++ u) u (h u))

  -- a step without events
  pub answered_tells : {A : Type 0} (by : A → Leave) (W : Leave → List Event → List Event → Type 0) (F : List Event → List Event → Type 0) (x : Answer A) (st : State) → ((a : A) (u : List Event) → W (by a) u u) → ((u : List Event) → F u u) → Tells keep {A = A} by W F (answered x st)
  answered_tells by W F (gives a) st h k = h a
  answered_tells by W F (undefined kind) st h k = k

  pub remembered_tells : {A : Type 0} (by : A → Leave) (W : Leave → List Event → List Event → Type 0) (F : List Event → List Event → Type 0) (x : Answer Objects) (a : A) (st : State) → ((u : List Event) → W (by a) u u) → ((u : List Event) → F u u) → Tells keep {A = A} by W F (remembered x a st)
  remembered_tells by W F (gives m) a st h k = h
  remembered_tells by W F (undefined kind) a st h k = k

  -- what comes after a step without events
  pub after_none : {A : Type 0} (by : A → Leave) (W : Leave → List Event → List Event → Type 0) (F : List Event → List Event → Type 0) (r : Result A) → Tells keep {A = A} by W F r → Tells keep {A = A} by W F (after [] r)
  after_none by W F (Go a st w) h = h
  after_none by W F (Stop o w) h = h

  pub answered_then : {A B : Type 0} (by : B → Leave) (W : Leave → List Event → List Event → Type 0) (F : List Event → List Event → Type 0) (x : Answer A) (st : State) (f : A → State → Result B) → ((u : List Event) → F u u) → ((a : A) → Tells keep {A = B} by W F (f a st)) → Tells keep {A = B} by W F (then_do (answered x st) f)
  answered_then by W F (gives a) st f k h = after_none by W F (f a st) (h a)
  answered_then by W F (undefined kind) st f k h = k

  pub remembered_then : {A B : Type 0} (by : B → Leave) (W : Leave → List Event → List Event → Type 0) (F : List Event → List Event → Type 0) (P : A → State → Type 0) (x : Answer Objects) (a : A) (st : State) (f : A → State → Result B) → ((u : List Event) → F u u) → Gives {A = A} P (remembered x a st) → ((u : State) → P a u → Tells keep {A = B} by W F (f a u)) → Tells keep {A = B} by W F (then_do (remembered x a st) f)
  remembered_then by W F P (gives m) a st f k g h = after_none by W F (f a _) (h _ g)
  remembered_then by W F P (undefined kind) a st f k g h = k

  pub either_tells : {A : Type 0} (by : A → Leave) (W : Leave → List Event → List Event → Type 0) (F : List Event → List Event → Type 0) (b : Bool) (r q : Result A) → Tells keep {A = A} by W F r → Tells keep {A = A} by W F q → Tells keep {A = A} by W F (either b r q)
  either_tells by W F true r q h k = h
  either_tells by W F false r q h k = k

  -- a turn is spent
  pub spend_tells : {A : Type 0} (by : A → Leave) (W : Leave → List Event → List Event → Type 0) (F : List Event → List Event → Type 0) (n : ℕ) (st : State) (f : State → Result A) → ((u : List Event) → F u u) → ((k : ℕ) → Tells keep {A = A} by W F (f (record { memory = st.memory; entries = st.entries; records = st.records; taken = st.taken; turns = k }))) → Tells keep {A = A} by W F (spend_at n st f)
  spend_tells by W F zero st f k h = k
  spend_tells by W F (suc n) st f k h = h n

  -- what is left by any exit, and then no events
  pub then_left : {A B : Type 0} (by : A → Leave) (to : B → Leave) (W X : Leave → List Event → List Event → Type 0) (F : List Event → List Event → Type 0) (r : Result A) (f : A → State → B) (g : A → State → State) → ((a : A) (st : State) (t u : List Event) → W (by a) t u → X (to (f a st)) t u) → Tells keep {A = A} by W F r → Tells keep {A = B} to X F (then_do r (λ a st. Go (f a st) (g a st) []))
  then_left by to W X F (Go a st w) f g up h =
      λ u. subst (λ z. X (to (f a st)) (told keep z ++ u) u) (sym (append-nil w)) (up a st (told keep w ++ u) u (h u))
  then_left by to W X F (Stop o w) f g up h = h

module _ (env : Shapes) (m : Marks) (keep : Event → List Event) where
  -- what a part does is said by a shape, or by parts in turn
  abbrev pub Says : {A : Type 0} → (A → Leave) → Shape → Result A → Type 0
  Says {A = A} by S r = Tells keep {A = A} by (Whole env m S) (Front env m S) r

  abbrev pub SaysAll : {A : Type 0} → (A → Leave) → Parts → Result A → Type 0
  SaysAll {A = A} by ps r = Tells keep {A = A} by (Falls env m ps) (Stands env m ps) r

  pub seq_says : {A : Type 0} (by : A → Leave) (ps : Parts) (r : Result A) → SaysAll {A = A} by ps r → Says {A = A} by (seq ps) r
  seq_says by ps r h =
      change_tells keep by (Falls env m ps) (Whole env m (seq ps)) (Stands env m ps) (Front env m (seq ps)) r (λ x t u k. seq_whole env m ps k) (λ t u k. seq_front env m ps k) h

  pub left_says : {A : Type 0} (by : A → Leave) (S T : Shape) (r : Result A) → Says {A = A} by S r → Says {A = A} by (alt S T) r
  left_says by Skip Skip r h = h
  left_says by S T r h =
      change_tells keep by (Whole env m S) (Whole env m (Alt S T)) (Front env m S) (Front env m (Alt S T)) r (λ x t u k. F.left k) (λ t u k. F.in_left k) h

  pub right_says : {A : Type 0} (by : A → Leave) (S T : Shape) (r : Result A) → Says {A = A} by T r → Says {A = A} by (alt S T) r
  right_says by Skip Skip r h = h
  right_says by S T r h =
      change_tells keep by (Whole env m T) (Whole env m (Alt S T)) (Front env m T) (Front env m (Alt S T)) r (λ x t u k. F.right k) (λ t u k. F.in_right k) h

  -- a part alone
  alone : {S : Shape} (x : Leave) {t u : List Event} → Whole env m S x t u → Falls env m (Part S End) x t u
  alone goes_on h = F.falls_on h F.ended
  alone x h = F.falls_away tt h

  pub part_alone : {A : Type 0} (by : A → Leave) (S : Shape) (r : Result A) → Says {A = A} by S r → SaysAll {A = A} by (Part S End) r
  part_alone by S r h =
      change_tells keep by (Whole env m S) (Falls env m (Part S End)) (Front env m S) (Stands env m (Part S End)) r (λ x t u k. alone x k) (λ t u k. inside k) h

  -- one part and then the others
  pub part_then : {A B : Type 0} (by : B → Leave) (S : Shape) (ps : Parts) (P : A → State → Type 0) (r : Result A) (f : A → State → Result B) → Says {A = A} Straight S r → Gives {A = A} P r → ((a : A) (st : State) → P a st → SaysAll {A = B} by ps (f a st)) → SaysAll {A = B} by (Part S ps) (then_do r f)
  part_then by S ps P (Go a st w) f h g k =
      after_tells keep by (Falls env m ps) (Falls env m (Part S ps)) (Stands env m ps) (Stands env m (Part S ps)) w (f a st) (λ x t u q. F.falls_on (h t) q) (λ t u q. beyond (h t) q) (k a st g)
  part_then by S ps P (Stop o w) f h g k = λ u. inside (h u)

  -- one part, and what makes no events after it
  pub part_last : {A B : Type 0} (by : B → Leave) (S : Shape) (r : Result A) (f : A → State → Result B) → Says {A = A} Straight S r → ((a : A) (st : State) → SaysAll {A = B} by End (f a st)) → SaysAll {A = B} by (Part S End) (then_do r f)
  part_last by S (Go a st w) f h k =
      after_tells keep by (Falls env m End) (Falls env m (Part S End)) (Stands env m End) (Stands env m (Part S End)) w (f a st) (λ x t u q. F.falls_on (h t) q) (λ t u q. beyond (h t) q) (k a st)
  part_last by S (Stop o w) f h k = λ u. inside (h u)

  pub then_quiet : {A B : Type 0} (by : B → Leave) (S : Shape) (r : Result A) (f : A → State → Result B) → Says {A = A} Straight S r → ((a : A) (st : State) → SaysAll {A = B} by End (f a st)) → Says {A = B} by S (then_do r f)
  then_quiet by S r f h k =
      change_tells keep by (Falls env m (Part S End)) (Whole env m S) (Stands env m (Part S End)) (Front env m S) (then_do r f) (λ x t u q. one_falls env m q) (λ t u q. one_stands env m q) (part_last by S r f h k)

  pub none_quiet : {A : Type 0} (x : Answer A) (st : State) → SaysAll {A = A} Straight End (answered x st)
  none_quiet x st = answered_tells keep Straight (Falls env m End) (Stands env m End) x st (λ a u. F.ended) (λ u. here)

  pub tested_says : (S : Shape) (r : Result Value) → Says {A = Value} Straight S r → Says {A = Bool} Straight S (tested r)
  tested_says S r h =
      then_quiet {A = Value} {B = Bool} Straight S r _ h (λ v st. none_quiet {A = Bool} (test st.memory v) st)

  -- a test, and one of two parts
  pub choice_says : {A : Type 0} (by : A → Leave) (S T : Shape) (Good : State → Type 0) (r : Result Value) (a b : State → Result A) → Says {A = Value} Straight S r → Gives {A = Value} (λ v st. Good st) r → ((st : State) → Good st → Says {A = A} by T (a st) × Says {A = A} by T (b st)) → Says {A = A} by (seq_two S T) (then_do (tested r) (λ holds st. either holds (a st) (b st)))
  choice_says by S T Good r a b h g q =
      seq_says by (Part S (Part T End)) _ (part_then by S (Part T End) (λ v st. Good st) (tested r) _ (tested_says S r h) (tested_gives Good r g) (λ holds st i. part_alone by T (either holds (a st) (b st)) (either_tells keep by (Whole env m T) (Front env m T) holds (a st) (b st) (q st i).0 (q st i).1)))

  -- the first of two statements, and the others
  pub exit_then : (S : Shape) (ps : Parts) (P : Exit → State → Type 0) (r : Result Exit) (f : State → Result Exit) → Says {A = Exit} left_by S r → Gives {A = Exit} P r → ((x : Exit) (st : State) → P x st → SaysAll {A = Exit} left_by ps (f st)) → SaysAll {A = Exit} left_by (Part S ps) (then_do r (λ x st. on_exit x st f))
  exit_then S ps P (Go on st w) f h g k =
      after_tells keep {A = Exit} left_by (Falls env m ps) (Falls env m (Part S ps)) (Stands env m ps) (Stands env m (Part S ps)) w (f st) (λ x t u q. F.falls_on (h t) q) (λ t u q. beyond (h t) q) (k on st g)
  exit_then S ps P (Go x st w) f h g k =
      λ u. subst (λ z. Falls env m (Part S ps) (left_by x) (told keep z ++ u) u) (sym (append-nil w)) (F.falls_away tt (h u))
  exit_then S ps P (Stop o w) f h g k = λ u. inside (h u)
