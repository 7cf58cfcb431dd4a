-- The facts at the exits of activations.
use Rattle.std.proofs.Common.{◌≡◌, ◌⊎◌, ◌↔◌, ℕ, ◌+◌, ◌<◌, ◌≤◌, Bool, true, false, nat_eq, List, [], ◌∷◌, ◌++◌, length, take, get_or, Contains, refl, sym, ◌∙◌, ap, subst, inl, inr}
use Rattle.std.proofs.lemmas.Bool.{eq-eqb, eqb-true}
use Rattle.std.proofs.lemmas.List.{take_all, get_or_default}
use Rattle.std.proofs.lemmas.List.Elements.{Contains-append_left, Contains-push, Contains-push_cases}
use Rattle.certify_facts.specs.declared.fact.Fact.{Fact}
use Rattle.certify_facts.specs.declared.fact.FactLine.{FactLine}
use Rattle.dm_base.specs.Adding.{Has}
use Rattle.certify_steps.proofs.AddingLemmas.{has_more, has_none}
use Rattle.certify.specs.contracts.ends.ActivationPartialEq.TheImpl.{eq-value as activation_eq}
use Rattle.certify.specs.declared.ends.Activation.{Activation}
pub use Rattle.flow_model.proofs.BothLemmas.{both_true, both_hold}

pub activation_exact : (x y : Activation) → activation_eq.it x y ≡ true → x ≡ y
activation_exact x y e =
    let (entered, function) = both_true (nat_eq x.entered y.entered) (nat_eq x.function y.function) e in
    λ i. record { entered = eqb-true x.entered y.entered entered i; function = eqb-true x.function y.function function i }

pub activation_same : (x : Activation) → activation_eq.it x x ≡ true
activation_same x = both_hold (nat_eq x.entered x.entered) (nat_eq x.function x.function) (eq-eqb x.entered x.entered refl) (eq-eqb x.function x.function refl)

-- Whether two activations are one.
same_or_not : (a b : Activation) → (a ≡ b) ⊎ (a ≡ b → ⊥)
same_or_not a b = by_test (activation_eq.it a b) refl
  where
    by_test : (r : Bool) → activation_eq.it a b ≡ r → (a ≡ b) ⊎ (a ≡ b → ⊥)
    by_test true is = inl (activation_exact a b is)
    by_test false is = inr (λ same. let both : true ≡ false = sym (activation_same a) ∙ ap (λ z. activation_eq.it a z) same ∙ is in absurd cc)

-- What the ends have, where those of one activation are taken out, one is added, and they are put in again.
module _ (Old Mid New : Activation → Fact → Type 0) (k : Activation) (before after : List Fact) (fact : Fact)
    (taken : (x : Fact) → Contains before x ↔ Old k x) (left : (a : Activation) (x : Fact) → (a ≡ k → ⊥) → Mid a x ↔ Old a x)
    (pushed : after ≡ before ++ fact ∷ [])
    (put : (x : Fact) → New k x ↔ Contains after x) (kept : (a : Activation) (x : Fact) → (a ≡ k → ⊥) → New a x ↔ Mid a x) where
  at_key : (x : Fact) → New k x ↔ (Old k x ⊎ ((k ≡ k) × (x ≡ fact)))
  at_key x = (
    λ has. elim (Contains-push_cases before fact x (subst (λ xs. Contains xs x) pushed ((put x).0 has))) as (λ _. Old k x ⊎ ((k ≡ k) × (x ≡ fact))) [
      | inl was ↦ inl ((taken x).0 was)
      | inr same ↦ inr (refl, sym same)
    ],
    λ s. (put x).1 (subst (λ xs. Contains xs x) (sym pushed) (elim s as (λ _. Contains (before ++ fact ∷ []) x) [
      | inl was ↦ Contains-append_left before (fact ∷ []) x ((taken x).1 was)
      | inr here ↦ subst (Contains (before ++ fact ∷ [])) (sym here.1) (Contains-push before fact)
    ])),
  )

  at_others : (a : Activation) (x : Fact) → (a ≡ k → ⊥) → New a x ↔ (Old a x ⊎ ((a ≡ k) × (x ≡ fact)))
  at_others a x differ = (
    λ has. inl ((left a x differ).0 ((kept a x differ).0 has)),
    λ s. elim s as (λ _. New a x) [ inl was ↦ (kept a x differ).1 ((left a x differ).1 was) | inr here ↦ absurd (differ here.0) ],
  )

  pub end_added : (a : Activation) (x : Fact) → New a x ↔ (Old a x ⊎ ((a ≡ k) × (x ≡ fact)))
  end_added a x = elim (same_or_not a k) as (λ _. New a x ↔ (Old a x ⊎ ((a ≡ k) × (x ≡ fact)))) [
    | inl same ↦ subst (λ b. New b x ↔ (Old b x ⊎ ((b ≡ k) × (x ≡ fact)))) (sym same) (at_key x)
    | inr differ ↦ at_others a x differ
  ]

-- A loop that notes facts.
module _ (P : FactLine → Activation → Fact → Type 0) where
  abbrev Notes : (Activation → Fact → Type 0) → List FactLine → Type 0
  Notes Now lines = (a : Activation) (x : Fact) → Now a x ↔ Has (λ l. P l a x) lines

  pub notes_none : (Now : Activation → Fact → Type 0) → ((a : Activation) (x : Fact) → Now a x → ⊥) → Notes Now []
  notes_none Now none a x = (λ has. absurd (none a x has), λ has. absurd (has_none (λ l. P l a x) has))

  pub notes_more : (Old New : Activation → Fact → Type 0) (lines : List FactLine) (i : ℕ) (d : FactLine) → i < length lines → Notes Old (take i lines)
      → ((a : Activation) (x : Fact) → New a x ↔ (Old a x ⊎ P (get_or lines i d) a x)) → Notes New (take (i + 1) lines)
  notes_more Old New lines i d lt before added a x =
      let more = has_more (λ l. P l a x) lines i (get_or lines i d) lt (get_or_default lines i d (get_or lines i d) lt) in (
        λ has. more.1 (elim ((added a x).0 has) as (λ _. Has (λ l. P l a x) (take i lines) ⊎ P (get_or lines i d) a x) [ inl was ↦ inl ((before a x).0 was) | inr here ↦ inr here ]),
        λ has. (added a x).1 (elim (more.0 has) as (λ _. Old a x ⊎ P (get_or lines i d) a x) [ inl was ↦ inl ((before a x).1 was) | inr here ↦ inr here ]),
      )

  pub notes_all : (Now : Activation → Fact → Type 0) (lines : List FactLine) (i : ℕ) → length lines ≤ i → Notes Now (take i lines) → Notes Now lines
  notes_all Now lines i over is = subst (Notes Now) (take_all i lines over) is
