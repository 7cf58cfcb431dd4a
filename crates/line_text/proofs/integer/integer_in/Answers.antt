use Rattle.std.proofs.Common.{◌≡◌, sym, ◌∙◌, arith, rules}
use Rattle.std.specs.Prelude.{FitsSigned}
use Rattle.std.specs.Int.{w64}
use Rattle.std.proofs.lemmas.Int.{ints}
use Rattle.line_text.proofs.IntegerLemmas.{fits_between, signed_injective}
use Rattle.line_text.proofs.integer.integer_in.Goals as goal
use Rattle.line_text.proofs.integer.integer_in.Goals.{then-integer-least-via-then-integer-least, then-integer-least-via-else-integer-least+then-most-integer}

pub returns-then-integer-least-clause-none : goal.returns-then-integer-least-clause-none
returns-then-integer-least-clause-none c z low high is =
    let fits : FitsSigned w64 c.in_ok-integer.integer = search rules in
    let fits_z : FitsSigned w64 z = fits_between c.args.least c.args.most z c.ranges.least c.ranges.most low high in
    let same : z ≡ c.in_ok-integer.integer = signed_injective z c.in_ok-integer.integer fits_z fits (sym is ∙ c.in_ok-integer.ensures.some) in
    elim c.then-integer-least.branch [ then-integer-least-via-then-integer-least w ↦ grind (arith, ints) | then-integer-least-via-else-integer-least+then-most-integer w ↦ grind (arith, ints) ]
