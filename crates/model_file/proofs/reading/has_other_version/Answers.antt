use Rattle.model_file.proofs.ReadingLemmas.{tells_other, tells_none, not_two, not_one}
use Rattle.model_file.proofs.reading.has_other_version.Goals as goal

pub returns-then-number-ne1 : goal.returns-then-number-ne1
returns-then-number-ne1 c =
    tells_other c.args.text.now c.first_line.result.0.now c.first_line.result.1.now c.in-Some.number _ c.first_line.ensures c.in-Some.ensures.small c.in-Some.ensures.some (not_two c.in-Some.number c.if-number-ne1.true)

pub returns-else-number-ne1 : goal.returns-else-number-ne1
returns-else-number-ne1 c =
    tells_other c.args.text.now c.first_line.result.0.now c.first_line.result.1.now c.in-Some.number _ c.first_line.ensures c.in-Some.ensures.small c.in-Some.ensures.some (not_one c.in-Some.number c.if-number-ne1.false)

pub returns-in-None : goal.returns-in-None
returns-in-None c = tells_none c.args.text.now c.first_line.result.0.now c.first_line.result.1.now c.first_line.ensures c.in-None.ensures.none
