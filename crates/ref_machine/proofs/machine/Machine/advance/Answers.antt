use Rattle.std.proofs.Common.{ap}
use Rattle.std.specs.Option.{option_copied}
use Rattle.ref_machine.specs.Futures.{future, is_waiting, records_taken}
use Rattle.ref_machine.specs.Stages.{waits}
use Rattle.ref_machine.proofs.Resuming.{goes_when, resumes_when, none_taken}
use Rattle.ref_machine.proofs.machine.Machine.advance.Goals as goal

pub returns-in-Ok-clause-advances : goal.returns-in-Ok-clause-advances
returns-in-Ok-clause-advances c =
    let m = c.args.self.now in
    goes_when (is_waiting m) (future m) (future c.go_on.new.self) (option_copied c.args.given) c.in-Ok.pause (is_waiting c.go_on.new.self) (ap waits c.in-Going.is) c.in-Ok.ensures.goes_on

pub returns-in-Ok-clause-taken : goal.returns-in-Ok-clause-taken
returns-in-Ok-clause-taken c =
    let m = c.args.self.now in
    none_taken c.args.given (is_waiting m) (records_taken m) (records_taken c.go_on.new.self) (ap waits c.in-Going.is) c.requires.waiting c.in-Ok.ensures.taken

pub returns-in-Waiting-clause-advances : goal.returns-in-Waiting-clause-advances
returns-in-Waiting-clause-advances c =
    let m = c.args.self.now in
    resumes_when (is_waiting m) (future m) (future c.resume.new.self) (option_copied c.args.given) c.resume.result (is_waiting c.resume.new.self) (ap waits c.in-Waiting.is) c.resume.ensures.resumes

pub resume-requires-clause-waiting : goal.resume-requires-clause-waiting
resume-requires-clause-waiting c = ap waits c.in-Waiting.is
