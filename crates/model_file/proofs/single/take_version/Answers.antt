use Rattle.model_file.proofs.SingleLemmas.{missed}
use Rattle.model_file.proofs.single.take_version.Goals as goal

pub returns-in-Ok-clause-taken : goal.returns-in-Ok-clause-taken
returns-in-Ok-clause-taken c = record { line = c.in-Some.line.now; next = c.in-Some.ensures.some; first = c.in-Ok.ensures }

pub returns-in-Err-clause-taken : goal.returns-in-Err-clause-taken
returns-in-Err-clause-taken c = missed _ _ c.args.text.now c.args.place.now c.next_line.new.place c.in-Some.line.now c.in-Err.miss c.refusal.result c.refusal.ensures c.in-Some.ensures.some c.in-Err.ensures
