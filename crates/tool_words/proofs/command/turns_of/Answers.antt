use Rattle.std.proofs.Common.{◌≡◌, sym, ◌∙◌, arith, decimal}
use Rattle.std.proofs.lemmas.Fmt.{decimal_injective}
use Rattle.tool_words.proofs.command.turns_of.Goals as goal

pub returns-else-turns-le-MOST_TURNS-clause-none : goal.returns-else-turns-le-MOST_TURNS-clause-none
returns-else-turns-le-MOST_TURNS-clause-none c = λ turns is most.
    let text : decimal c.in_ok-turns.turns ≡ decimal turns = sym c.in_ok-turns.ensures.some ∙ c.as_bytes.ensures.value ∙ is in
    let same : c.in_ok-turns.turns ≡ turns = decimal_injective c.in_ok-turns.turns turns (omega arith) (omega arith) text in
    omega (arith, same, most, c.if-turns-le-MOST_TURNS.false)
