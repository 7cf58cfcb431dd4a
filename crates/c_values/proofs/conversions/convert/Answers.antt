use Rattle.std.proofs.Common.{ap, ◌∙◌, w8, w32, w64, FitsSigned, rules}
use Rattle.std.proofs.lemmas.Int.{to_z-of_z}
use Rattle.std.specs.Int.{int_wrap}
use Rattle.c_tree.specs.declared.value.Value.TheVariants as v
use Rattle.c_tree.specs.Operators.{gives, low_bits}
use Rattle.c_values.proofs.WordLemmas.{on_same, char_of_bits, int_of_bits}
use Rattle.c_values.proofs.conversions.convert.Goals as goal

pub returns-in-Char : goal.returns-in-Char
returns-in-Char c =
    let passed : FitsSigned w64 c.number-number.result = search rules in
    let fits : FitsSigned w8 c.cast_signed.result = search rules in
    rw c.in-Char.is (
    ap (λ z. gives (v.Char z)) (to_z-of_z w8 c.cast_signed.result fits ∙ (c.cast_signed.ensures ∙ char_of_bits c.low_byte.result c.number-number.result (c.low_byte.ensures ∙ ap (low_bits 8) (to_z-of_z w64 c.number-number.result passed))))
    ∙ on_same c.args.value c.number-number.result (λ z. v.Char (int_wrap w8 z)) c.number-number.ensures)

pub returns-in-Int : goal.returns-in-Int
returns-in-Int c =
    let passed : FitsSigned w64 c.number-number.result = search rules in
    let fits : FitsSigned w32 c.cast_signed-in-Int.result = search rules in
    rw c.in-Int.is (
    ap (λ z. gives (v.Int z)) (to_z-of_z w32 c.cast_signed-in-Int.result fits ∙ (c.cast_signed-in-Int.ensures ∙ int_of_bits c.low_word.result c.number-number.result (c.low_word.ensures ∙ ap (low_bits 32) (to_z-of_z w64 c.number-number.result passed))))
    ∙ on_same c.args.value c.number-number.result (λ z. v.Int (int_wrap w32 z)) c.number-number.ensures)
