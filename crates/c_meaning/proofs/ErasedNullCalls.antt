-- Parts of a program that differ in null calls alone.
use Rattle.std.proofs.Common.{◌≡◌, ℕ, zero, suc, List, [], ◌∷◌, ◌++◌, sym, ap, ◌∙◌, refl}
use Rattle.dm_base.specs.declared.event.Event.{Event}
use Rattle.dm_base.specs.declared.event.Event.TheVariants.{Pre, Post, Sys}
use Rattle.dm_base.specs.Trace.{erase, output, written_by}
use Rattle.c_tree.specs.declared.value.Value.{Value}
use Rattle.c_meaning.specs.Meaning.{Marks, with_marks}
use Rattle.c_meaning.specs.Results.{State, Result, Go, Stop, after, then_do, spend_at}
use Rattle.c_meaning.specs.NullCalls.{AreNullCalls}
use Rattle.flow_model.proofs.Histories.{erase-append}

-- what was written is what was written without the null calls
pub output_erase : (t : List Event) → output (erase t) ≡ output t
output_erase [] = refl
output_erase (Sys name arguments outcome ∷ t) = ap (λ z. written_by name arguments outcome ++ z) (output_erase t)
output_erase (Pre s ∷ t) = output_erase t
output_erase (Post s ∷ t) = output_erase t

-- a part without its null calls
abbrev pub bare : {A : Type 0} → Result A → Result A
bare (Go a st w) = Go a st (erase w)
bare (Stop o w) = Stop o (erase w)

-- two parts that differ in null calls alone
abbrev pub Alike : {A : Type 0} → Result A → Result A → Type 0
Alike r q = bare r ≡ bare q

bare_after : {A : Type 0} (w : List Event) (r : Result A) → bare (after w r) ≡ after (erase w) (bare r)
bare_after w (Go a st u) = ap (λ z. Go a st z) (erase-append w u)
bare_after w (Stop o u) = ap (λ z. Stop o z) (erase-append w u)

bare_then : {A B : Type 0} (r : Result A) (f : A → State → Result B) → bare (then_do r f) ≡ then_do (bare r) (λ a st. bare (f a st))
bare_then (Go a st w) f = bare_after w (f a st)
bare_then (Stop o w) f = refl

pub then_alike : {A B : Type 0} (r q : Result A) (f g : A → State → Result B) → Alike r q → ((a : A) (st : State) → Alike (f a st) (g a st)) → Alike (then_do r f) (then_do q g)
then_alike {A = A} {B = B} r q f g e h =
    bare_then r f ∙ (ap (λ r. then_do r (λ a st. bare (f a st))) e ∙ (ap (λ k. then_do (bare q) k) same ∙ sym (bare_then q g)))
  where
    left : A → State → Result B
    left a st = bare (f a st)

    right : A → State → Result B
    right a st = bare (g a st)

    same : left ≡ right
    same = λ i a st. h a st i

after_alike : {A : Type 0} (w u : List Event) (r q : Result A) → erase w ≡ [] → erase u ≡ [] → Alike r q → Alike (after w r) (after u q)
after_alike {A = A} w u r q e k h =
    bare_after w r ∙ (ap (λ z. after z (bare r)) (e ∙ sym k) ∙ (ap (λ z. after (erase u) z) h ∙ sym (bare_after u q)))

pub instrumented_alike : (m n : Marks) → AreNullCalls m → AreNullCalls n → (site : ℕ) (r q : Result Value) → Alike r q → Alike (with_marks m site r) (with_marks n site q)
instrumented_alike m n hm hn site r q h =
    after_alike {A = Value} ((m site).0) ((n site).0) (then_do r (λ v st. Go v st ((m site).1))) (then_do q (λ v st. Go v st ((n site).1))) ((hm site).0) ((hn site).0)
    (then_alike {A = Value} {B = Value} r q (λ v st. Go v st ((m site).1)) (λ v st. Go v st ((n site).1)) h (λ v st. ap (λ z. Go v st z) ((hm site).1 ∙ sym ((hn site).1))))

pub spend_alike : {A : Type 0} (n : ℕ) (st : State) (f g : State → Result A) → ((st : State) → Alike (f st) (g st)) → Alike (spend_at n st f) (spend_at n st g)
spend_alike zero st f g h = refl
spend_alike (suc n) st f g h = h _
