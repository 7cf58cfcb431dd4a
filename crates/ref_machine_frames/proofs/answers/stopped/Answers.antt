use Rattle.std.proofs.Common.{ap, sym}
use Rattle.ref_machine_steps.specs.Faults.{number_of}
use Rattle.c_values.specs.Answers.{undefined}
use Rattle.ref_machine_frames.proofs.Answering.{mistyped, none_given}
use Rattle.ref_machine_frames.proofs.answers.stopped.Goals as goal

pub returns-in-Undefined-clause-same : goal.returns-in-Undefined-clause-same
returns-in-Undefined-clause-same c = none_given c.in-Undefined.kind (undefined (number_of c.args.fault)) (ap (λ f. undefined (number_of f)) (sym c.in-Undefined.is))

pub returns-in-Mistyped-clause-same : goal.returns-in-Mistyped-clause-same
returns-in-Mistyped-clause-same c = mistyped (undefined (number_of c.args.fault)) (ap (λ f. undefined (number_of f)) (sym c.in-Mistyped.is))
