use Rattle.std.proofs.Common.{length, sym, ap, subst, arith, All}
use Rattle.std.proofs.lemmas.Result.{err_from_is_err_and}
use Rattle.fleet_schedule.specs.ScheduleText.{IsRightLine}
use Rattle.tool_fleet.proofs.MemberLemmas.{may_run, runs_fleet, stops_at_inputs, stops_at_schedule}
use Rattle.tool_fleet.proofs.command.run_fleet.Goals as goal

pub returns-in_err-plan-clause-stop : goal.returns-in_err-plan-clause-stop
returns-in_err-plan-clause-stop g c =
    let w = err_from_is_err_and c.from_residual.result c.from_residual.ensures.1 in
    rw (w.1, w.2) (stops_at_schedule (g.S.Store.files c.args.store.now) c.args.schedule.now c.in_err-plan.field-0.0 _ _ c.in_err-plan.ensures.stop)

pub returns-in_err-inputs-clause-stop : goal.returns-in_err-inputs-clause-stop
returns-in_err-inputs-clause-stop g c =
    let w = err_from_is_err_and c.from_residual-in_err-inputs.result c.from_residual-in_err-inputs.ensures.1 in
    rw (w.1, w.2) (stops_at_inputs (g.S.Store.files c.args.store.now) _ c.args.schedule.now c.in_ok-plan.plan c.processes.result.now c.in_err-inputs.field-0.0 _ _ _ c.in_ok-plan.ensures.same c.processes.ensures c.in_ok-plan.ensures.read c.in_ok-plan.ensures.never_falls c.in_err-inputs.ensures.stop)

pub inputs_in-requires-clause-right : goal.inputs_in-requires-clause-right
inputs_in-requires-clause-right g c = subst (All IsRightLine) (sym c.processes.ensures) c.in_ok-plan.ensures.some.1.is.right.lines

pub inputs_in-requires-clause-few : goal.inputs_in-requires-clause-few
inputs_in-requires-clause-few g c = let few = c.in_ok-plan.ensures.some.1.few.processes in omega (arith, ap length c.processes.ensures)

pub finished_run-requires : goal.finished_run-requires
finished_run-requires g c =
    let text = c.in_ok-plan.ensures.some in
    may_run _ text.0 c.in_ok-plan.plan c.processes.result.now c.order.result.now c.in_ok-inputs.inputs.groups.items c.in_ok-inputs.inputs.processes.items c.processes.ensures c.order.ensures text.1 c.in_ok-inputs.ensures.read

pub returns-clause-made : goal.returns-clause-made
returns-clause-made g c =
    runs_fleet (g.S.Store.files c.args.store.now) _ c.args.schedule.now c.args.which c.in_ok-plan.plan c.processes.result.now c.order.result.now c.in_ok-inputs.inputs.groups.items c.in_ok-inputs.inputs.processes.items c.in_ok-finished.finished.status c.in_ok-finished.finished.text.items
    c.in_ok-plan.ensures.same c.processes.ensures c.order.ensures c.in_ok-plan.ensures.read c.in_ok-inputs.ensures.read c.in_ok-finished.ensures.run
