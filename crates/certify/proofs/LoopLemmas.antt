-- Loops that look for an item, and loops that test each item.
use Rattle.std.proofs.Common.{◌≡◌, ◌↔◌, ℕ, ◌+◌, ◌<◌, ◌≤◌, Bool, true, false, IsTrue, List, [], length, take, get_or, Contains, sym, ◌∙◌, subst, inl, inr, arith, refl}
use Rattle.std.proofs.lemmas.List.{take_all, get_or_default}
use Rattle.dm_base.specs.Adding.{Has}
use Rattle.certify_steps.proofs.AddingLemmas.{has_more, none_more, none_all, found_at}

module _ {X : Type 0} (P : X → Type 0) (xs : List X) where
  abbrev Every : List X → Type 0
  Every ys = (y : X) → Contains ys y → P y

  pub one_holds : (i : ℕ) (x : X) → i < length xs → x ≡ get_or xs i x → P x → IsTrue true ↔ Has P xs
  one_holds i x lt is p = (λ yes. found_at P xs i x lt is p, λ has. refl)

  pub one_holds_at : (i : ℕ) (none : X) → i < length xs → P (get_or xs i none) → IsTrue true ↔ Has P xs
  one_holds_at i none lt p = one_holds i (get_or xs i none) lt (get_or_default xs i none (get_or xs i none) lt) p

  pub none_holds : (i : ℕ) → length xs ≤ i → (Has P (take i xs) → ⊥) → IsTrue false ↔ Has P xs
  none_holds i over none = (λ yes. absurd cc, λ has. absurd (none_all P xs i over none has))

  pub none_more_at : (i : ℕ) (none : X) → i < length xs → (Has P (take i xs) → ⊥) → (P (get_or xs i none) → ⊥) → Has P (take (i + 1) xs) → ⊥
  none_more_at i none lt before not = none_more P xs i (get_or xs i none) lt (get_or_default xs i none (get_or xs i none) lt) before not

  pub every_none : Every []
  every_none y has = absurd (omega (arith, has.1))

  pub every_more : (i : ℕ) (x : X) → i < length xs → x ≡ get_or xs i x → Every (take i xs) → P x → Every (take (i + 1) xs)
  every_more i x lt is before p y has = elim ((has_more (λ z. y ≡ z) xs i x lt is).0 (y, has, refl)) as (λ _. P y) [
    | inl was ↦ subst P (sym was.2) (before was.0 was.1)
    | inr e ↦ subst P (sym e) p
  ]

  pub every_more_at : (i : ℕ) (none : X) → i < length xs → Every (take i xs) → P (get_or xs i none) → Every (take (i + 1) xs)
  every_more_at i none lt before p = every_more i (get_or xs i none) lt (get_or_default xs i none (get_or xs i none) lt) before p

  pub every_holds : (i : ℕ) → length xs ≤ i → Every (take i xs) → IsTrue true ↔ Every xs
  every_holds i over all = (λ yes. subst (λ ys. Every ys) (take_all i xs over) all, λ every. refl)

  pub every_fails : (i : ℕ) (x : X) → i < length xs → x ≡ get_or xs i x → (P x → ⊥) → IsTrue false ↔ Every xs
  every_fails i x lt is not = (λ yes. absurd cc, λ every. absurd (not (every x (i, lt, sym is))))

  pub every_fails_at : (i : ℕ) (none : X) → i < length xs → (P (get_or xs i none) → ⊥) → IsTrue false ↔ Every xs
  every_fails_at i none lt not = every_fails i (get_or xs i none) lt (get_or_default xs i none (get_or xs i none) lt) not

-- what a test tells
pub not_said : {P : Type 0} → (IsTrue false ↔ P) → P → ⊥
not_said is p = let both : false ≡ true = is.1 p in absurd cc

pub said : {P : Type 0} → (IsTrue true ↔ P) → P
said is = is.0 refl

pub no_by : {P : Type 0} (b : Bool) → b ≡ false → (IsTrue b ↔ P) → P → ⊥
no_by b wrong is p = let both : true ≡ false = sym (is.1 p) ∙ wrong in absurd cc

pub yes_by : {P : Type 0} (b : Bool) → b ≡ true → (IsTrue b ↔ P) → P
yes_by b right is = is.0 right
