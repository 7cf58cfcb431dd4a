-- Members of lists, by tests and by facts.
use Rattle.std.proofs.Common.{◌≡◌, ◌⊎◌, ℕ, Bool, true, false, cond, List, [], ◌∷◌, ◌++◌, Contains, refl, sym, subst, inl, inr, nat_eq, append-nil, ap, ◌∙◌}
use Rattle.std.specs.List.{list_any}
use Rattle.std.proofs.lemmas.Bool.{eqb-true, false≢true}
use Rattle.std.proofs.lemmas.List.Elements.{Contains-append_left, Contains-push, Contains-push_cases}
use Rattle.std.proofs.lemmas.Map.Views.{list_any-from_Contains, Contains-from_any}
use Rattle.std.specs.Cmp.{nat_eq_equiv}
use Rattle.dm_base.specs.Adding.{Adds, Gains}
use Rattle.flow_graph.specs.Nodes.{with_node}

-- a key of a set
pub any_from : (xs : List ℕ) (x : ℕ) → list_any (nat_eq x) xs ≡ true → Contains xs x
any_from xs x h = Contains-from_any eqb-true x xs h

pub any_to : (xs : List ℕ) (x : ℕ) → Contains xs x → list_any (nat_eq x) xs ≡ true
any_to xs x has = list_any-from_Contains nat_eq_equiv x xs has

add_by : (b : Bool) (old : List ℕ) (x : ℕ) → list_any (nat_eq x) old ≡ b → Adds old (cond b old (old ++ x ∷ [])) (λ y. y ≡ x)
add_by true old x is = record {
  grows = ([], sym (append-nil old));
  is = λ y. (
    λ has. inl has,
    λ s. elim s as (λ _. Contains old y) [ inl has ↦ has | inr e ↦ subst (Contains old) (sym e) (any_from old x is) ],
  );
}
add_by false old x is = record {
  grows = (x ∷ [], refl);
  is = λ y. (
    λ has. elim (Contains-push_cases old x y has) as (λ _. Contains old y ⊎ (y ≡ x)) [ inl was ↦ inl was | inr e ↦ inr (sym e) ],
    λ s. elim s as (λ _. Contains (old ++ x ∷ []) y) [ inl was ↦ Contains-append_left old (x ∷ []) y was | inr e ↦ subst (Contains (old ++ x ∷ [])) (sym e) (Contains-push old x) ],
  );
}

-- a number that is added to a list
pub number_added : (old new : List ℕ) (x : ℕ) → new ≡ with_node old x → Adds old new (λ y. y ≡ x)
number_added old new x is = subst (λ ks. Adds old ks (λ y. y ≡ x)) (sym is) (add_by (list_any (nat_eq x) old) old x refl)

-- a number that is inserted into a set
pub number_gained : (old new : List ℕ) (x : ℕ) → ((y : ℕ) → list_any (nat_eq y) new ≡ cond (nat_eq x y) true (list_any (nat_eq y) old)) → Gains (Contains old) (Contains new) (λ y. y ≡ x)
number_gained old new x is y = (
  λ has. into (nat_eq x y) refl (sym (is y) ∙ any_to new y has),
  λ s. elim s as (λ _. Contains new y) [
    | inl was ↦ any_from new y (is y ∙ still (nat_eq x y) (any_to old y was))
    | inr e ↦ any_from new y (is y ∙ ap (λ b. cond b true (list_any (nat_eq y) old)) (ap (nat_eq x) e ∙ nat_eq_equiv.refl x))
  ],
)
  where
    into : (b : Bool) → nat_eq x y ≡ b → cond b true (list_any (nat_eq y) old) ≡ true → Contains old y ⊎ (y ≡ x)
    into true same _ = inr (sym (eqb-true x y same))
    into false _ there = inl (any_from old y there)

    still : (b : Bool) → list_any (nat_eq y) old ≡ true → cond b true (list_any (nat_eq y) old) ≡ true
    still true _ = refl
    still false there = there

-- the answer of a test that tells a fact is that of another that tells it
pub same_answer : (a b : Bool) → (a ≡ true → b ≡ true) → (b ≡ true → a ≡ true) → a ≡ b
same_answer true b to from = sym (to refl)
same_answer false true to from = absurd (false≢true (from refl))
same_answer false false to from = refl
