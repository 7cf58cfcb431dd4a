use Rattle.inline_model.proofs.HeightLemmas.{next_one, next_over, next_known}
use Rattle.inline_model.proofs.reading.next_of.Goals as goal

pub returns-then-is_known : goal.returns-then-is_known
returns-then-is_known c = λ g are. next_known g c.args.heights.now c.args.function c.args.from (c.is_known.ensures.0 c.if-is_known.true)

pub returns-in-Some : goal.returns-in-Some
returns-in-Some c = λ g are. next_one g c.args.entries.now c.args.heights.now c.args.function c.args.from c.in-Some.place are c.in-Some.ensures.some.0 c.in-Some.ensures.some.1 c.in-Some.ensures.some.2

pub returns-in-None : goal.returns-in-None
returns-in-None c = λ g are. next_over g c.args.entries.now c.args.heights.now c.args.function c.args.from are c.in-None.ensures.none
