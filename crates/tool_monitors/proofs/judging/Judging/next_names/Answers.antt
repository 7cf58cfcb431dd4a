use Rattle.tool_monitors.proofs.HearingLemmas.{next_refused}
use Rattle.tool_monitors.proofs.Judgements.{come_refused}
use Rattle.tool_monitors.proofs.judging.Judging.next_names.Goals as goal

pub returns-in-Some-clause-next : goal.returns-in-Some-clause-next
returns-in-Some-clause-next g c = λ k h followed.
    let me = c.args.self.now in
    next_refused g.M.Monitor.WHICH c.args.model.now k h c.in-Some.field-0 (come_refused _ g.M.Monitor.WHICH c.args.model.now k h me.kept me.refused c.in-Some.field-0 c.in-Some.is followed.2)
