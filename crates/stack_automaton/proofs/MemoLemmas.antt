-- What a memo has after a key is noted.
use Rattle.std.proofs.Common.{◌≡◌, ◌⊎◌, ℕ, true, List, [], ◌∷◌, Option, Contains, refl, subst, inl, inr, nat_eq}
use Rattle.std.specs.Prelude.{Result, Ok, Err, IfOk, OnErr}
use Rattle.std.specs.HashMap.{HashMap, PutsEntry, values}
use Rattle.std.specs.Cmp.Lexicographic.{pointwise}
use Rattle.std.specs.Map.{values_of}
use Rattle.std.proofs.lemmas.List.Elements.{All-weaker, All-contains, All-contains_itself}
use Rattle.std.proofs.lemmas.Map.Views.{All-values-PutsEntry}
use Rattle.stack_automaton.specs.contracts.place.FactPartialEq.TheImpl.{eq-value as fact_eq}
use Rattle.stack_automaton.specs.declared.place.Fact.{Fact}
use Rattle.stack_automaton.proofs.FactLemmas.{both_true, fact_exact}

-- facts that a test finds equal
pub facts_exact : (xs ys : List Fact) → pointwise fact_eq.it xs ys ≡ true → xs ≡ ys
facts_exact [] [] e = refl
facts_exact [] (y ∷ ys) e = absurd cc
facts_exact (x ∷ xs) [] e = absurd cc
facts_exact (x ∷ xs) (y ∷ ys) e =
    let (first, rest) = both_true (fact_eq.it x y) (pointwise fact_eq.it xs ys) e in
    λ i. fact_exact x y first i ∷ facts_exact xs ys rest i

-- a value that is there is an old one or the new one, whether memory is refused or not
pub values_noted : {X S E : Type 0} (r : Result (Option X) E) (old new : HashMap ℕ X S) (k : ℕ) (v w : X) → IfOk r (PutsEntry nat_eq old new k v) → OnErr r (new.entries ≡ old.entries) → v ≡ w → (m : X) → Contains (values new) m → Contains (values old) m ⊎ (m ≡ w)
values_noted {X} (Ok was) old new k v w puts same is m has = All-contains P (values new) m (All-values-PutsEntry nat_eq P old new k v was puts (All-weaker (Contains (values old)) P (λ x there. inl there) (values old) (All-contains_itself (values old))) (inr is)) has
  where
    P : X → Type 0
    P x = Contains (values old) x ⊎ (x ≡ w)
values_noted (Err e) old new k v w puts same is m has = inl (subst (λ es. Contains (values_of es) m) same has)

-- one key more, after some were forgotten
pub noted : {X : Type 0} (old mid new : List X) (v : X) → ((m : X) → Contains mid m → Contains old m) → ((m : X) → Contains new m → Contains mid m ⊎ (m ≡ v)) → (m : X) → Contains new m → Contains old m ⊎ (m ≡ v)
noted old mid new v fewer more m has = elim (more m has) as (λ _. Contains old m ⊎ (m ≡ v)) [ inl was ↦ inl (fewer m was) | inr is ↦ inr is ]
