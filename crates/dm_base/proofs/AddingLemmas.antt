-- Items that are added one after another.
use Rattle.std.proofs.Common.{◌≡◌, ◌⊎◌, ◌↔◌, ℕ, ◌+◌, ◌<◌, ◌≤◌, List, [], ◌∷◌, ◌++◌, length, take, get_or, Contains, sym, ◌∙◌, ap, subst, inl, inr, arith, append-nil}
use Rattle.std.proofs.lemmas.List.{take_more, take_all, get_or_default, append_assoc}
use Rattle.std.proofs.lemmas.List.Elements.{Contains-push, Contains-append_left, Contains-push_cases}
use Rattle.dm_base.specs.Adding.{Has, Adds, Gains}

-- What holds of the new: what held of the old, or P.
module _ {Y : Type 0} where
  pub gains_nothing : (Old P : Y → Type 0) → ((y : Y) → P y → ⊥) → Gains Old Old P
  gains_nothing Old P none y = (λ has. inl has, λ s. elim s as (λ _. Old y) [ inl has ↦ has | inr p ↦ absurd (none y p) ])

  pub gains_same : (Old New P Q : Y → Type 0) → ((y : Y) → P y ↔ Q y) → Gains Old New P → Gains Old New Q
  gains_same Old New P Q same is y = (
    λ has. elim ((is y).0 has) as (λ _. Old y ⊎ Q y) [ inl was ↦ inl was | inr p ↦ inr ((same y).0 p) ],
    λ s. elim s as (λ _. New y) [ inl was ↦ (is y).1 (inl was) | inr q ↦ (is y).1 (inr ((same y).1 q)) ],
  )

  -- two additions are one
  pub gains_both : (Old Mid New P Q R : Y → Type 0) → ((y : Y) → R y ↔ (P y ⊎ Q y)) → Gains Old Mid P → Gains Mid New Q → Gains Old New R
  gains_both Old Mid New P Q R split p q y = (
    λ has. elim ((q y).0 has) as (λ _. Old y ⊎ R y) [
      | inl in_mid ↦ elim ((p y).0 in_mid) as (λ _. Old y ⊎ R y) [ inl was ↦ inl was | inr is ↦ inr ((split y).1 (inl is)) ]
      | inr is ↦ inr ((split y).1 (inr is))
    ],
    λ s. elim s as (λ _. New y) [
      | inl was ↦ (q y).1 (inl ((p y).1 (inl was)))
      | inr r ↦ elim ((split y).0 r) as (λ _. New y) [
        | inl is ↦ (q y).1 (inl ((p y).1 (inr is)))
        | inr is ↦ (q y).1 (inr is)
      ]
    ],
  )

-- The same of lists that grow.
module _ {Y : Type 0} where
  pub adds_nothing : (old : List Y) (P : Y → Type 0) → ((y : Y) → P y → ⊥) → Adds old old P
  adds_nothing old P none = record { grows = ([], sym (append-nil old)); is = gains_nothing (Contains old) P none }

  pub adds_same : (old new : List Y) (P Q : Y → Type 0) → ((y : Y) → P y ↔ Q y) → Adds old new P → Adds old new Q
  adds_same old new P Q same adds = record { grows = adds.grows; is = gains_same (Contains old) (Contains new) P Q same adds.is }

  pub adds_both : (old mid new : List Y) (P Q R : Y → Type 0) → ((y : Y) → R y ↔ (P y ⊎ Q y)) → Adds old mid P → Adds mid new Q → Adds old new R
  adds_both old mid new P Q R split p q = record {
    grows = let (r, one) = p.grows in let (s, two) = q.grows in (r ++ s, two ∙ ap (λ xs. xs ++ s) one ∙ append_assoc old r s);
    is = gains_both (Contains old) (Contains mid) (Contains new) P Q R split p.is q.is;
  }

  -- what is added to nothing is all
  pub are_all : (new : List Y) (P : Y → Type 0) → Adds [] new P → (y : Y) → Contains new y ↔ P y
  are_all new P adds y = (
    λ has. elim ((adds.is y).0 has) as (λ _. P y) [ inl none ↦ absurd (omega (arith, none.1)) | inr is ↦ is ],
    λ is. (adds.is y).1 (inr is),
  )

-- one item more
pub has_more : {X : Type 0} (P : X → Type 0) (xs : List X) (i : ℕ) (x : X) → i < length xs → x ≡ get_or xs i x → Has P (take (i + 1) xs) ↔ (Has P (take i xs) ⊎ P x)
has_more {X} P xs i x lt is =
    let more : take (i + 1) xs ≡ take i xs ++ x ∷ [] = take_more xs i x lt ∙ ap (λ y. take i xs ++ y ∷ []) (sym is) in
    let Q : List X → Type 0 = λ ys. Has P ys ↔ (Has P (take i xs) ⊎ P x) in
    subst Q (sym more) (
      λ has. elim (Contains-push_cases (take i xs) x has.0 has.1) as (λ _. Has P (take i xs) ⊎ P x) [
        | inl was ↦ inl (has.0, was, has.2)
        | inr e ↦ inr (subst P (sym e) has.2)
      ],
      λ s. elim s as (λ _. Has P (take i xs ++ x ∷ [])) [
        | inl was ↦ (was.0, Contains-append_left (take i xs) (x ∷ []) was.0 was.1, was.2)
        | inr p ↦ (x, Contains-push (take i xs) x, p)
      ],
    )

pub has_none : {X : Type 0} (P : X → Type 0) → Has P [] → ⊥
has_none P has = omega (arith, has.1.1)

-- A loop over items that adds for each what it has.
module _ {X Y : Type 0} where
  pub gains_init : (Old : Y → Type 0) (P : X → Y → Type 0) → Gains Old Old (λ y. Has (λ x. P x y) [])
  gains_init Old P = gains_nothing Old _ (λ y has. has_none (λ x. P x y) has)

  pub gains_step : (Old Mid New : Y → Type 0) (P : X → Y → Type 0) (xs : List X) (i : ℕ) (x : X) → i < length xs → x ≡ get_or xs i x
      → Gains Old Mid (λ y. Has (λ x. P x y) (take i xs)) → Gains Mid New (P x) → Gains Old New (λ y. Has (λ x. P x y) (take (i + 1) xs))
  gains_step Old Mid New P xs i x lt is before one = gains_both Old Mid New _ _ _ (λ y. has_more (λ x. P x y) xs i x lt is) before one

  pub gains_end : (Old New : Y → Type 0) (P : X → Y → Type 0) (xs : List X) (i : ℕ) → length xs ≤ i
      → Gains Old New (λ y. Has (λ x. P x y) (take i xs)) → Gains Old New (λ y. Has (λ x. P x y) xs)
  gains_end Old New P xs i over is = subst (λ ys. Gains Old New (λ y. Has (λ x. P x y) ys)) (take_all i xs over) is

  pub adds_init : (old : List Y) (P : X → Y → Type 0) → Adds old old (λ y. Has (λ x. P x y) [])
  adds_init old P = adds_nothing old _ (λ y has. has_none (λ x. P x y) has)

  pub adds_step : (old mid new : List Y) (P : X → Y → Type 0) (xs : List X) (i : ℕ) (x : X) → i < length xs → x ≡ get_or xs i x
      → Adds old mid (λ y. Has (λ x. P x y) (take i xs)) → Adds mid new (P x) → Adds old new (λ y. Has (λ x. P x y) (take (i + 1) xs))
  adds_step old mid new P xs i x lt is before one = adds_both old mid new _ _ _ (λ y. has_more (λ x. P x y) xs i x lt is) before one

  pub adds_end : (old new : List Y) (P : X → Y → Type 0) (xs : List X) (i : ℕ) → length xs ≤ i
      → Adds old new (λ y. Has (λ x. P x y) (take i xs)) → Adds old new (λ y. Has (λ x. P x y) xs)
  adds_end old new P xs i over adds = subst (λ ys. Adds old new (λ y. Has (λ x. P x y) ys)) (take_all i xs over) adds

  -- the same, where the item is what stands at the place
  pub adds_step_at : (old mid new : List Y) (P : X → Y → Type 0) (xs : List X) (i : ℕ) (none : X) → i < length xs
      → Adds old mid (λ y. Has (λ x. P x y) (take i xs)) → Adds mid new (P (get_or xs i none)) → Adds old new (λ y. Has (λ x. P x y) (take (i + 1) xs))
  adds_step_at old mid new P xs i none lt before one = adds_step old mid new P xs i (get_or xs i none) lt (get_or_default xs i none (get_or xs i none) lt) before one
