use Rattle.std.proofs.Common.{◌≡◌, List, map, take, sym, subst, arith, All}
use Rattle.std.specs.List.{AllZip}
use Rattle.std.proofs.lemmas.List.{take_all}
use Rattle.std.proofs.lemmas.List.Elements.{All-push}
use Rattle.tool_fleet.specs.declared.inputs.ProcessInput.{ProcessInput}
use Rattle.tool_fleet.specs.declared.reports.ProcessReport.{ProcessReport}
use Rattle.tool_fleet.specs.Inputs.{IsReported, IsTellableReport, group_of, member_after}
use Rattle.tool_fleet.proofs.MemberLemmas.{own_pid, report_more, reported_so}
use Rattle.tool_fleet.proofs.running.reports_of.Goals as goal

pub standing-requires : goal.standing-requires
standing-requires g c =
    let (groups, order, stands) = c.requires in (
      map group_of groups,
      map (member_after order) c.args.processes.now,
      stands,
      own_pid order c.args.processes.now c.loop-one.one-index c.one-item.result c.loop-one-test.true c.one-item.is,
    )

pub loop-one-preserved : goal.loop-one-preserved
loop-one-preserved g c =
    let report : ProcessReport = record { pid = c.one-item.result.pid; standing = c.in_ok-standing.standing } in
    record {
      reported = λ groups order stands.
          report_more g.M.Monitor.WHICH groups order c.args.processes.now c.loop-one.one-index c.one-item.result c.loop-one.reports.items _ report c.loop-one-test.true c.one-item.is c.in_ok-push.ensures.items (c.loop-one.invariant.reported groups order stands)
          (reported_so g.M.Monitor c.args.fleet.now groups order c.args.processes.now c.loop-one.one-index c.one-item.result c.in_ok-standing.standing c.loop-one-test.true c.one-item.is stands c.in_ok-standing.ensures.exact);
      tellable = subst (All IsTellableReport) (sym c.in_ok-push.ensures.items) (All-push IsTellableReport c.loop-one.reports.items report c.loop-one.invariant.tellable c.in_ok-standing.ensures.tellable);
    }

pub returns-clause-reported : goal.returns-clause-reported
returns-clause-reported g c = λ groups order stands.
    let whole : take c.loop-one.one-index c.args.processes.now ≡ c.args.processes.now = take_all c.loop-one.one-index c.args.processes.now (omega arith) in
    subst (λ (ps : List ProcessInput). AllZip (IsReported g.M.Monitor.WHICH groups order) ps c.loop-one.reports.items) whole (c.loop-one.invariant.reported groups order stands)
