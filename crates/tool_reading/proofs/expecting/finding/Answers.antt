use Rattle.std.proofs.Common.{List, sym, subst}
use Rattle.dm_base.specs.declared.event.Event.{Event}
use Rattle.report.specs.VerdictLine.{IsGiven}
use Rattle.tool_frame.specs.Stop.{IsFinished}
use Rattle.expected_events.specs.Marked.{seen}
use Rattle.tool_reading.proofs.FindingsLemmas.{followed_expected, status_finished}
use Rattle.tool_reading.proofs.expecting.finding.Goals as goal

pub line_of-requires : goal.line_of-requires
line_of-requires g c = subst (IsGiven c.in_ok-followed.followed.verdict) (sym c.event_at-event.ensures) (c.in_ok-followed.ensures).given

pub returns-clause-expected : goal.returns-clause-expected
returns-clause-expected g c = λ recorded.
    let f = c.in_ok-followed.followed in
    let model = c.args.model.now in
    let Stands : List Event → Type 0 = λ h. g.M.Monitor.stands f.monitor f.pool model c.args.bound h in
    followed_expected model c.args.bound c.args.events.now Stands g.M.Monitor.WHICH c.WHICH.result f.kept f.verdict (seen c.in_ok-found.found) c.event_at-event.result c.in_ok-text.text.items c.push_next.new.text.items c.status_of.result
    c.in_ok-followed.ensures
    (λ h stands accepted. c.in_ok-found.ensures c.args.bound h stands accepted)
    c.WHICH.ensures c.event_at-event.ensures c.in_ok-text.ensures c.in_ok-push_next.ensures c.status_of.ensures recorded

pub returns-clause-finished : goal.returns-clause-finished
returns-clause-finished g c = subst IsFinished (sym c.status_of.ensures) (status_finished c.in_ok-followed.followed.verdict)
