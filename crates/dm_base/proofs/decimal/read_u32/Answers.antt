use Rattle.std.proofs.Common.{rules, ◌≡◌, ◌<◌, ◌^◌, sym, ◌∙◌, arith}
use Rattle.std.proofs.lemmas.Fmt.{decimal_injective}
use Rattle.dm_base.proofs.decimal.read_u32.Goals as goal

pub returns-then-number-clause-none : goal.returns-then-number-clause-none
returns-then-number-clause-none c = λ n small is.
    let range : c.in_ok-number.number < 2 ^ 64 = search rules in
    let above : 4294967295 < c.in_ok-number.number = search rules in
    let same = decimal_injective n c.in_ok-number.number (omega (arith, small)) range (sym is ∙ c.in_ok-number.ensures.some) in
    omega (arith, same, small, above)
