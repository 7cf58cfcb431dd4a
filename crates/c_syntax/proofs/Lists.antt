-- Lemmas that several crates above use.
use Rattle.std.proofs.Common.{Err, List, Ok, OnOk, Result, [], ap, append-nil, sym, ◌++◌, ◌∙◌, ◌≡◌}
use Rattle.c_lexer.proofs.ListLemmas.{two_parts}

pub one_more : {Y : Type 0} (a r s : List Y) → r ≡ s → a ++ r ≡ (a ++ []) ++ s
one_more a r s e = ap (λ z. a ++ z) e ∙ ap (λ z. z ++ s) (sym (append-nil a))

-- a call's clause by other words
pub on_same : {E Y : Type 0} (r : Result (Unit {0}) E) (old new m b : List Y) → m ≡ b → OnOk r (new ≡ old ++ b) → OnOk r (new ≡ old ++ m)
on_same (Ok u) old new m b e is = is ∙ ap (λ ms. old ++ ms) (sym e)
on_same (Err x) old new m b e is = is

pub then_on : {E Y : Type 0} (r : Result (Unit {0}) E) (old mid new a b m : List Y) → mid ≡ old ++ a → m ≡ a ++ b → OnOk r (new ≡ mid ++ b) → OnOk r (new ≡ old ++ m)
then_on (Ok u) old mid new a b m first e is = two_parts old mid new a b first is ∙ ap (λ ms. old ++ ms) (sym e)
then_on (Err x) old mid new a b m first e is = is
