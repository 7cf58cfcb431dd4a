use Rattle.std.proofs.Common.{refl, subst}
use Rattle.std.specs.Prelude.{Err, codes}
use Rattle.line_text.specs.declared.miss.Miss.{Miss}
use Rattle.line_text.specs.Reading.{Reads}
use Rattle.trace_file.specs.Trace.{trace_head}
use Rattle.trace_file.proofs.HeadLemmas.{other_number}
use Rattle.trace_file.proofs.TraceLemmas.{trace_head-is}
use Rattle.trace_file.proofs.trace_place.read_head.Goals as goal

pub returns-in-Ok-clause-head : goal.returns-in-Ok-clause-head
returns-in-Ok-clause-head c = (c.take.new.self.rest.now, c.in-Ok.ensures.reads.stands)

pub returns-in-Some-clause-refused : goal.returns-in-Some-clause-refused
returns-in-Some-clause-refused c =
    let reads = subst (λ (m : Miss). Reads {V = Unit {0}} (λ _. Unit {0}) (λ _. trace_head) c.args.line.now c.take.new.self.rest.now (Err m)) c.in-Err-Wrong.field-0-is c.in-Err-Wrong.ensures.reads in
    (c.in-Some.field-0, c.in-Some.ensures.small, other_number trace_head (codes "dyckmon-trace ") c.args.line.now 1 c.in-Some.field-0 trace_head-is (reads tt tt) c.in-Some.ensures.some, c.in-Some.ensures.some)

pub returns-in-None-clause-refused : goal.returns-in-None-clause-refused
returns-in-None-clause-refused c =
    let reads = subst (λ (m : Miss). Reads {V = Unit {0}} (λ _. Unit {0}) (λ _. trace_head) c.args.line.now c.take.new.self.rest.now (Err m)) c.in-Err-Wrong.field-0-is c.in-Err-Wrong.ensures.reads in
    (refl, reads tt tt, c.in-None.ensures.none)
