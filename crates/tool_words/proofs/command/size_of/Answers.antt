use Rattle.std.proofs.Common.{◌≡◌, sym, ◌∙◌, arith, decimal}
use Rattle.std.proofs.lemmas.Fmt.{decimal_injective}
use Rattle.tool_words.proofs.command.size_of.Goals as goal

pub returns-else-size-ge1-clause-none : goal.returns-else-size-ge1-clause-none
returns-else-size-ge1-clause-none c = λ size is least most.
    let text : decimal c.in_ok-size.size ≡ decimal size = sym c.in_ok-size.ensures.some ∙ c.as_bytes.ensures.value ∙ is in
    let same : c.in_ok-size.size ≡ size = decimal_injective c.in_ok-size.size size (omega (arith, c.read_u32.type_inv)) (omega arith) text in
    omega (arith, same, c.else-size-ge1.either)
