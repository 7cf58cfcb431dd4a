-- Strings that pass no limit are static objects, whose cells are chars.
use Rattle.std.proofs.Common.{ℕ, suc, ◌≤◌, pos, List, [], ◌∷◌, ◌++◌, All, map, length, sym, subst, arith, ◌*◌}
use Rattle.std.specs.List.{AllZip}
use Rattle.std.proofs.lemmas.List.Elements.{All-nil, All-cons}
use Rattle.c_tree.specs.declared.value.IntType.TheVariants.{Char}
use Rattle.c_tree.specs.Tree.{integer, Program}
use Rattle.c_tree.specs.Layout.{repeat}
use Rattle.c_tree.specs.Operators.{value_of}
use Rattle.c_tree.specs.Kinds.{HasType, static_objects}
use Rattle.c_tree.specs.Program.{IsStatic}
use Rattle.c_tree.proofs.OperatorLemmas.{value_of_type}
use Rattle.c_rules.specs.Initialisers.{typed_char, value_of_cell}
use Rattle.c_rules.specs.Units.{static_string}
use Rattle.c_rules_laws.proofs.RightTypedExpressions.{constant_value}
use Rattle.c_rules_laws.proofs.SitesOfExpressions.{AreShort}
use Rattle.c_meaning.proofs.Places.{length_repeat}

module _ (p : Program) where
  char_typed : (c : ℕ) → HasType p (static_objects p) (integer Char) (value_of_cell (typed_char c))
  char_typed c = constant_value p (integer Char) (value_of Char (pos c)) (value_of_type Char (pos c))

  string_typed : (w : List ℕ) → AllZip (HasType p (static_objects p)) (repeat (suc (length w)) (integer Char ∷ [])) (map value_of_cell (map typed_char (w ++ 0 ∷ [])))
  string_typed [] = (char_typed 0, tt)
  string_typed (c ∷ w) = (char_typed c, string_typed w)

  string_static : (w : List ℕ) → suc (length w) ≤ 65536 → IsStatic p (static_string w)
  string_static w l = record {
    object = record { complete = (omega arith, tt); few = (let r = length_repeat (suc (length w)) (integer Char ∷ []) in let m : suc (length w) * 1 ≤ 65536 = omega (arith, l) in subst (λ n. n ≤ 65536) (sym r) m) };
    typed = string_typed w;
  }

  pub strings_static : (ws : List (List ℕ)) → AreShort ws → All (IsStatic p) (map static_string ws)
  strings_static [] h = All-nil (IsStatic p)
  strings_static (w ∷ ws) h = All-cons (IsStatic p) (static_string w) (map static_string ws) (string_static w h.0) (strings_static ws h.1)
