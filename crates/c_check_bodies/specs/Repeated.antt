-- For private contracts and proofs alone: labels that were seen before others.
use Rattle.std.specs.Prelude.{◌≡◌, ℤ, Bool, true, false, ◌||◌, cond, List, [], ◌∷◌}
use Rattle.std.specs.List.{list_any}
use Rattle.std.specs.Ordering.{int_eq}
use Rattle.c_check_bodies.specs.declared.labels.Seen.{Seen}
use Rattle.c_rules.specs.Constants.{number_of}
use Rattle.c_rules.specs.Statements.{same_number, has_default}
use Rattle.c_tree.specs.declared.tree.TLabel.{TLabel}
use Rattle.c_tree.specs.declared.tree.TLabel.TheVariants.{Case, Default}

-- the number stands among the numbers of case values
abbrev pub is_number : ℤ → List TLabel → Bool
is_number z [] = false
is_number z (Case w ∷ ls) = same_number z (number_of w) || is_number z ls
is_number z (Default ∷ ls) = is_number z ls

-- the label stands among the others
abbrev pub is_repeated : TLabel → List TLabel → Bool
is_repeated (Case v) ls = is_number (number_of v) ls
is_repeated Default ls = has_default ls

-- the number is one of them now, and each other one stays what it was
abbrev pub AddsNumber : (old : List ℤ) → ℤ → (new : List ℤ) → Type 0
AddsNumber old n new = (z : ℤ) → list_any (int_eq z) new ≡ cond (int_eq n z) true (list_any (int_eq z) old)

-- just these labels were seen
pub record HasSeen (seen : Seen) (labels : List TLabel) : Type 0 where
  pub numbers : (z : ℤ) → list_any (int_eq z) seen.numbers.keys ≡ is_number z labels
  pub defaults : seen.default ≡ has_default labels
