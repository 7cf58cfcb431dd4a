use Rattle.std.proofs.Common.{ap, sym}
use Rattle.ref_machine_steps.specs.Faults.{told}
use Rattle.ref_machine_frames.proofs.Answering.{same_answer, typed_value}
use Rattle.ref_machine_frames.proofs.answers.given.Goals as goal

pub returns-in-Ok-clause-same : goal.returns-in-Ok-clause-same
returns-in-Ok-clause-same c = typed_value c.in-Ok.value (told c.args.found) (ap told (sym c.in-Ok.is))

pub returns-in-Err-clause-same : goal.returns-in-Err-clause-same
returns-in-Err-clause-same c = same_answer _ _ c.stopped.result (ap told (sym c.in-Err.is)) c.stopped.ensures.same
