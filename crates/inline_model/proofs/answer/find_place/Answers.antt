use Rattle.std.proofs.Common.{arith, ◌∙◌}
use Rattle.std.proofs.lemmas.List.{get_or_default}
use Rattle.inline_model.proofs.answer.find_place.Goals as goal

pub unreachable-requires : goal.unreachable-requires
unreachable-requires c = c.loop-at.invariant c.requires.0 (omega (arith, c.requires.1, c.loop-at-test.false)) (get_or_default c.args.places.now c.requires.0 0 c.args.place c.requires.1 ∙ c.requires.2)
