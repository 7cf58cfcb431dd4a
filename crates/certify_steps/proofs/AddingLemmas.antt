-- Items that are found, and items that are added one after another.
use Rattle.std.proofs.Common.{◌≡◌, ◌⊎◌, ◌↔◌, ℕ, ◌+◌, ◌<◌, ◌≤◌, List, [], ◌∷◌, ◌++◌, length, take, get_or, Contains, sym, subst, inl, inr, arith}
use Rattle.std.proofs.lemmas.List.{take_all, get_or_default}
use Rattle.std.proofs.lemmas.List.Elements.{Contains-push, Contains-append_left, Contains-push_cases}
use Rattle.dm_base.specs.Adding.{Has}
use Rattle.certify_steps.specs.Adding.{Adds}
pub use Rattle.dm_base.proofs.AddingLemmas.{has_more, has_none}

-- A search.
module _ {X : Type 0} (P : X → Type 0) (xs : List X) (i : ℕ) where
  pub none_more : (x : X) → i < length xs → x ≡ get_or xs i x → (Has P (take i xs) → ⊥) → (P x → ⊥) → Has P (take (i + 1) xs) → ⊥
  none_more x lt is none not has = elim ((has_more P xs i x lt is).0 has) as (λ _. ⊥) [ inl was ↦ none was | inr p ↦ not p ]

  pub none_all : length xs ≤ i → (Has P (take i xs) → ⊥) → Has P xs → ⊥
  none_all over none has = none (subst (Has P) (sym (take_all i xs over)) has)

  pub found_at : (x : X) → i < length xs → x ≡ get_or xs i x → P x → Has P xs
  found_at x lt is p = (x, (i, lt, sym is), p)

-- What is added.
module _ {Y : Type 0} where
  pub adds_nothing : (old : List Y) (P : Y → Type 0) → ((y : Y) → P y → ⊥) → Adds old old P
  adds_nothing old P none = record { is = λ y. (λ has. inl has, λ s. elim s as (λ _. Contains old y) [ inl has ↦ has | inr p ↦ absurd (none y p) ]) }

  pub adds_same : (old new : List Y) (P Q : Y → Type 0) → ((y : Y) → P y ↔ Q y) → Adds old new P → Adds old new Q
  adds_same old new P Q same adds = record {
    is = λ y. (
      λ has. elim ((adds.is y).0 has) as (λ _. Contains old y ⊎ Q y) [ inl was ↦ inl was | inr p ↦ inr ((same y).0 p) ],
      λ s. elim s as (λ _. Contains new y) [ inl was ↦ (adds.is y).1 (inl was) | inr q ↦ (adds.is y).1 (inr ((same y).1 q)) ],
    );
  }

  -- two additions are one
  pub adds_both : (old mid new : List Y) (P Q R : Y → Type 0) → ((y : Y) → R y ↔ (P y ⊎ Q y)) → Adds old mid P → Adds mid new Q → Adds old new R
  adds_both old mid new P Q R split p q = record {
    is = λ y. (
      λ has. elim ((q.is y).0 has) as (λ _. Contains old y ⊎ R y) [
        | inl in_mid ↦ elim ((p.is y).0 in_mid) as (λ _. Contains old y ⊎ R y) [ inl was ↦ inl was | inr is ↦ inr ((split y).1 (inl is)) ]
        | inr is ↦ inr ((split y).1 (inr is))
      ],
      λ s. elim s as (λ _. Contains new y) [
        | inl was ↦ (q.is y).1 (inl ((p.is y).1 (inl was)))
        | inr r ↦ elim ((split y).0 r) as (λ _. Contains new y) [
          | inl is ↦ (q.is y).1 (inl ((p.is y).1 (inr is)))
          | inr is ↦ (q.is y).1 (inr is)
        ]
      ],
    );
  }

  -- the same, where nobody names the whole
  pub adds_then : (old mid new : List Y) (P Q : Y → Type 0) → Adds old mid P → Adds mid new Q → Adds old new (λ y. P y ⊎ Q y)
  adds_then old mid new P Q p q = adds_both old mid new P Q (λ y. P y ⊎ Q y) (λ y. (λ s. s, λ s. s)) p q

  -- where a fact holds
  pub adds_if : (old new : List Y) (A : Type 0) (P : Y → Type 0) → A → Adds old new P → Adds old new (λ y. A × P y)
  adds_if old new A P holds adds = adds_same old new P _ (λ y. (λ p. (holds, p), λ both. both.1)) adds

  -- one item at the end
  pub adds_push : (old new : List Y) (x : Y) → new ≡ old ++ x ∷ [] → Adds old new (λ y. y ≡ x)
  adds_push old new x is = subst (λ ys. Adds old ys (λ y. y ≡ x)) (sym is) (record {
    is = λ y. (
      λ has. elim (Contains-push_cases old x y has) as (λ _. Contains old y ⊎ (y ≡ x)) [ inl was ↦ inl was | inr e ↦ inr (sym e) ],
      λ s. elim s as (λ _. Contains (old ++ x ∷ []) y) [
        | inl was ↦ Contains-append_left old (x ∷ []) y was
        | inr e ↦ subst (Contains (old ++ x ∷ [])) (sym e) (Contains-push old x)
      ],
    );
  })

-- A loop over items that adds for each what it has.
module _ {X Y : Type 0} where
  pub adds_init : (old : List Y) (P : X → Y → Type 0) → Adds old old (λ y. Has (λ x. P x y) [])
  adds_init old P = adds_nothing old _ (λ y has. has_none (λ x. P x y) has)

  pub adds_step : (old mid new : List Y) (P : X → Y → Type 0) (xs : List X) (i : ℕ) (x : X) → i < length xs → x ≡ get_or xs i x
      → Adds old mid (λ y. Has (λ x. P x y) (take i xs)) → Adds mid new (P x) → Adds old new (λ y. Has (λ x. P x y) (take (i + 1) xs))
  adds_step old mid new P xs i x lt is before one = adds_both old mid new _ _ _ (λ y. has_more (λ x. P x y) xs i x lt is) before one

  pub adds_end : (old new : List Y) (P : X → Y → Type 0) (xs : List X) (i : ℕ) → length xs ≤ i
      → Adds old new (λ y. Has (λ x. P x y) (take i xs)) → Adds old new (λ y. Has (λ x. P x y) xs)
  adds_end old new P xs i over adds = subst (λ ys. Adds old new (λ y. Has (λ x. P x y) ys)) (take_all i xs over) adds

  -- the same, where the item is what stands at the place
  pub adds_step_at : (old mid new : List Y) (P : X → Y → Type 0) (xs : List X) (i : ℕ) (none : X) → i < length xs
      → Adds old mid (λ y. Has (λ x. P x y) (take i xs)) → Adds mid new (P (get_or xs i none)) → Adds old new (λ y. Has (λ x. P x y) (take (i + 1) xs))
  adds_step_at old mid new P xs i none lt before one = adds_step old mid new P xs i (get_or xs i none) lt (get_or_default xs i none (get_or xs i none) lt) before one
