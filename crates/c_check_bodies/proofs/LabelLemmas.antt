-- Labels that are repeated.
use Rattle.std.proofs.Common.{◌≡◌, ℕ, zero, suc, ◌+◌, ℤ, Bool, true, false, not, ◌&&◌, ◌||◌, cond, List, [], ◌∷◌, drop, Some, None, slice_get, refl, ap, sym, subst, ◌∙◌, arith}
use Rattle.std.specs.List.{list_any}
use Rattle.std.specs.Ordering.{int_eq}
use Rattle.c_check_bodies.specs.Repeated.{AddsNumber, HasSeen, is_number, is_repeated}
use Rattle.c_check_bodies.specs.declared.labels.Seen.{Seen}
use Rattle.c_rules.specs.Constants.{number_of}
use Rattle.c_rules.specs.Statements.{are_distinct, has_default, is_case_of, same_number}
use Rattle.c_tree.specs.declared.tree.TLabel.{TLabel}
use Rattle.c_tree.specs.declared.tree.TLabel.TheVariants.{Case, Default}
use Rattle.c_tree.specs.declared.value.Value.{Value}

-- ## Equal numbers

-- ## What was seen

case_as : (v : Value) (ls : List TLabel) → is_case_of v ls ≡ is_number (number_of v) ls
case_as v [] = refl
case_as v (Case w ∷ ls) = ap (λ b. same_number (number_of v) (number_of w) || b) (case_as v ls)
case_as v (Default ∷ ls) = case_as v ls

either : (a b : Bool) → cond a true b ≡ (a || b)
either true b = refl
either false b = refl

pub none_seen : (seen : Seen) → seen.numbers.keys ≡ [] → seen.default ≡ false → HasSeen seen []
none_seen seen none off = record { numbers = λ z. ap (list_any (int_eq z)) none; defaults = off }

-- ## One label after another, from the last one

distinct_more : (l : TLabel) (ls : List TLabel) (b : Bool) → is_repeated l ls ≡ b → are_distinct (l ∷ ls) ≡ (not b && are_distinct ls)
distinct_more (Case v) ls b h = ap (λ r. not r && are_distinct ls) (case_as v ls ∙ h)
distinct_more Default ls b h = ap (λ r. not r && are_distinct ls) h

some_same : (a b : TLabel) → Some a ≡ Some b → a ≡ b
some_same a b h = cc

none_not : (a : TLabel) → None ≡ Some a → ⊥
none_not a h = cc

label_there : (ls : List TLabel) (i : ℕ) (l : TLabel) → slice_get ls i ≡ Some l → drop i ls ≡ l ∷ drop (i + 1) ls
label_there [] i l h = absurd (none_not l h)
label_there (x ∷ ls) zero l h = ap (λ y. y ∷ ls) (some_same x l h)
label_there (x ∷ ls) (suc i) l h = let one : suc i + 1 ≡ suc (i + 1) = omega arith in label_there ls i l h ∙ ap (λ k. l ∷ drop k (x ∷ ls)) (sym one)

-- one that was not seen
pub distinct_on : (ls : List TLabel) (left i : ℕ) (l : TLabel) (b : Bool) → left ≡ i + 1 → Some l ≡ slice_get ls i → b ≡ is_repeated l (drop left ls) → b ≡ false → are_distinct (drop left ls) ≡ true → are_distinct (drop i ls) ≡ true
distinct_on ls left i l b at there told off rest =
    let behind : drop left ls ≡ drop (i + 1) ls = ap (λ n. drop n ls) at in
    ap are_distinct (label_there ls i l (sym there))
    ∙ (distinct_more l (drop (i + 1) ls) false (ap (is_repeated l) (sym behind) ∙ (sym told ∙ off)) ∙ (ap are_distinct (sym behind) ∙ rest))

false_behind : (a : Bool) → (a && false) ≡ false
false_behind true = refl
false_behind false = refl

repeated_within : (i : ℕ) (ls : List TLabel) → are_distinct (drop i ls) ≡ false → are_distinct ls ≡ false
repeated_within zero ls h = h
repeated_within (suc i) [] h = h
repeated_within (suc i) (Case v ∷ ls) h = ap (λ b. not (is_case_of v ls) && b) (repeated_within i ls h) ∙ false_behind (not (is_case_of v ls))
repeated_within (suc i) (Default ∷ ls) h = ap (λ b. not (has_default ls) && b) (repeated_within i ls h) ∙ false_behind (not (has_default ls))

-- one that was seen
pub not_distinct : (ls : List TLabel) (left i : ℕ) (l : TLabel) (b : Bool) → left ≡ i + 1 → Some l ≡ slice_get ls i → b ≡ is_repeated l (drop left ls) → b ≡ true → are_distinct ls ≡ false
not_distinct ls left i l b at there told on =
    let behind : drop left ls ≡ drop (i + 1) ls = ap (λ n. drop n ls) at in
    repeated_within i ls (ap are_distinct (label_there ls i l (sym there)) ∙ distinct_more l (drop (i + 1) ls) true (ap (is_repeated l) (sym behind) ∙ (sym told ∙ on)))

pub seen_on : (ls : List TLabel) (left i : ℕ) (l : TLabel) (seen : Seen) → left ≡ i + 1 → Some l ≡ slice_get ls i → HasSeen seen (l ∷ drop left ls) → HasSeen seen (drop i ls)
seen_on ls left i l seen at there h = record {
  numbers = λ z. h.numbers z ∙ ap (is_number z) (ap (λ n. l ∷ drop n ls) at ∙ sym (label_there ls i l (sym there)));
  defaults = h.defaults ∙ ap has_default (ap (λ n. l ∷ drop n ls) at ∙ sym (label_there ls i l (sym there)));
}

pub adds_as : (old new : List ℤ) (n m : ℤ) → m ≡ n → AddsNumber old m new → AddsNumber old n new
adds_as old new n m is h = subst (λ k. AddsNumber old k new) is h
