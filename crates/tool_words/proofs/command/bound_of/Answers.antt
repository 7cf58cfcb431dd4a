use Rattle.std.proofs.Common.{◌≡◌, sym, ◌∙◌, arith, decimal}
use Rattle.std.proofs.lemmas.Fmt.{decimal_injective}
use Rattle.tool_words.proofs.command.bound_of.Goals as goal

pub returns-else-bound-ge1-clause-none : goal.returns-else-bound-ge1-clause-none
returns-else-bound-ge1-clause-none c = λ bound is least most.
    let text : decimal c.in_ok-bound.bound ≡ decimal bound = sym c.in_ok-bound.ensures.some ∙ c.as_bytes.ensures.value ∙ is in
    let same : c.in_ok-bound.bound ≡ bound = decimal_injective c.in_ok-bound.bound bound (omega (arith, c.read_u32.type_inv)) (omega arith) text in
    omega (arith, same, c.else-bound-ge1.either)
