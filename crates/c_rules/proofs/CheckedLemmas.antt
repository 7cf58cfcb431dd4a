-- What is fine gives something, and in what is faulty a demand fails.
use Rattle.std.proofs.Common.{◌≡◌, ◌⊎◌, inl, inr, ℕ, Contains, refl, ap, ◌∙◌, arith}
use Rattle.c_tree.specs.Mode.{Mode}
use Rattle.c_tree.specs.Tree.{Program}
use Rattle.c_syntax.specs.Tree.{Items}
use Rattle.c_rules.specs.Checked.{Checked, fine, faulty, faults, demand, on, Met, met}
use Rattle.c_rules.specs.Codes.{C9}
use Rattle.c_rules.specs.Scopes.{nothing_before}
use Rattle.c_rules.specs.Items.{items}
use Rattle.c_rules.specs.Units.{env_before, has_main, program_of, few_names, IsTyped}
use Rattle.c_rules.proofs.Modes.{on_fine}

abbrev pub IsFineOrFaulty : {A : Type 0} → Checked A → Type 0
IsFineOrFaulty {A} r = ((a : A) × (r ≡ fine a)) ⊎ ((code at : ℕ) × Contains (faults r) (record { code = code; at = at }))

pub fine_or_faulty : {A : Type 0} (r : Checked A) → IsFineOrFaulty r
fine_or_faulty (fine a) = inl (a, refl)
fine_or_faulty (faulty f fs) = inr (f.code, f.at, (0, omega arith, refl))

-- what the items of a unit with few names are typed as
abbrev pub typed_items : Items → Mode → Checked Program
typed_items u m = on (items (env_before m u) nothing_before u) (λ p. demand (has_main m u) C9 0 (program_of m u p))

-- a unit that is typed has few names
pub names_fine : (u : Items) (m : Mode) (p : Program) → IsTyped u m p → few_names u ≡ fine met
names_fine u m p g = let k = on_fine (few_names u) (λ _. typed_items u m) p g in by_met k.0 k.1
  where
    by_met : (a : Met) → few_names u ≡ fine a → few_names u ≡ fine met
    by_met met e = e

-- and its items are fine
pub items_fine : (u : Items) (m : Mode) (p : Program) → IsTyped u m p → typed_items u m ≡ fine p
items_fine u m p g = (on_fine (few_names u) (λ _. typed_items u m) p g).2

-- both make it typed
pub items_typed : (u : Items) (m : Mode) (p : Program) → few_names u ≡ fine met → typed_items u m ≡ fine p → IsTyped u m p
items_typed u m p h g = ap (λ r. on r (λ _. typed_items u m)) h ∙ g
