-- The static objects of strings.
use Rattle.std.proofs.Common.{◌≡◌, ℕ, true, List, [], ◌∷◌, ◌++◌, ◌<◌, to_z, w8, length, map, refl, sym, ap, ◌∙◌, arith}
use Rattle.std.specs.Prelude.{pos, ◌%◌}
use Rattle.std.specs.Int.{int_wrap}
use Rattle.std.proofs.lemmas.List.{map-append}
use Rattle.c_rules.specs.Initialisers.{typed_char, value_of_cell}
use Rattle.c_rules.specs.PrimaryExpressions.{string_type}
use Rattle.c_rules.specs.Units.{static_string}
use Rattle.c_tree.specs.declared.value.Value.{Value}
use Rattle.c_tree.specs.Tree.{CType, Static}
use Rattle.c_check_units.specs.Chars.{char_of, chars}

-- a byte read in two's complement
pub char_wrapped : (b : ℕ) → b < 256 → to_z w8 b ≡ int_wrap w8 (pos b)
unfolding int_wrap
char_wrapped b lt = let same : b ≡ b % 256 = omega (arith, lt) in ap (λ n. to_z w8 n) same

pub chars_more : (xs ys : List ℕ) → chars (xs ++ ys) ≡ chars xs ++ chars ys
chars_more xs ys = map-append char_of xs ys

cells_are : (xs : List ℕ) → map value_of_cell (map typed_char xs) ≡ chars xs
cells_are [] = refl
cells_are (x ∷ xs) = ap (λ vs. char_of x ∷ vs) (cells_are xs)

abbrev pub made : CType → List Value → Static
made t vs = record { ctype = t; cells = vs; string = true }

pub static_as : (t : CType) (vs : List Value) (w : List ℕ) → t ≡ string_type (length w) → vs ≡ chars (w ++ 0 ∷ []) → made t vs ≡ static_string w
static_as t vs w sized cells = ap (λ u. made u vs) sized ∙ ap (made (string_type (length w))) (cells ∙ sym (cells_are (w ++ 0 ∷ [])))
