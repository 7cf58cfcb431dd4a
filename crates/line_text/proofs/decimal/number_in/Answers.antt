use Rattle.std.proofs.Common.{◌≡◌, ◌<◌, ◌^◌, sym, ◌∙◌, arith, rules}
use Rattle.std.proofs.lemmas.Fmt.{decimal_injective}
use Rattle.line_text.proofs.decimal.number_in.Goals as goal
use Rattle.line_text.proofs.decimal.number_in.Goals.{then-number-least-via-then-number-least, then-number-least-via-else-number-least+then-most-number}

pub returns-then-number-least-clause-none : goal.returns-then-number-least-clause-none
returns-then-number-least-clause-none c n low high is =
    let fits : c.in_ok-number.number < 2 ^ 64 = search rules in
    let small : n < 2 ^ 64 = omega arith in
    let same : n ≡ c.in_ok-number.number = decimal_injective n c.in_ok-number.number small fits (sym is ∙ c.in_ok-number.ensures.some) in
    elim c.then-number-least.branch [ then-number-least-via-then-number-least w ↦ omega arith | then-number-least-via-else-number-least+then-most-number w ↦ omega arith ]
