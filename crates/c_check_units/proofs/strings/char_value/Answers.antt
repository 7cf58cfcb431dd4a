use Rattle.std.proofs.Common.{◌<◌, ap, ◌∙◌, w8, of_z, to_z, arith}
use Rattle.std.proofs.lemmas.Int.{of_z-to_z}
use Rattle.c_tree.specs.declared.value.Value.TheVariants.{Char}
use Rattle.c_check_units.proofs.StringLemmas.{char_wrapped}
use Rattle.c_check_units.proofs.strings.char_value.Goals as goal

pub returns : goal.returns
returns c =
    let fits : c.args.b < 256 = omega (arith, c.ranges.b.fits) in
    ap (λ z. Char z) (ap (λ z. to_z w8 (of_z w8 z)) c.cast_signed.ensures ∙ (ap (λ n. to_z w8 n) (of_z-to_z w8 c.args.b fits) ∙ char_wrapped c.args.b fits))
