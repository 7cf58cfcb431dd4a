use Rattle.std.proofs.Common.{◌≡◌, List, take, sym, ◌∙◌, subst, arith}
use Rattle.std.proofs.lemmas.List.{take_all}
use Rattle.std.proofs.lemmas.Result.{err_from_is_err_and}
use Rattle.fleet_schedule.specs.declared.line.Line.{Line}
use Rattle.fleet_schedule.specs.ScheduleText.{IsRightLine}
use Rattle.tool_fleet.specs.Inputs.{AreRead}
use Rattle.tool_fleet.proofs.ReadingLemmas.{few_read, models_moved, read_more, stops_at_line}
use Rattle.tool_fleet.proofs.processes.inputs_in.Goals as goal

pub read_next-requires-clause-line : goal.read_next-requires-clause-line
read_next-requires-clause-line g c = subst IsRightLine (sym c.line-item.is) (c.requires.right c.loop-line.line-index c.line-item.result c.loop-line-test.true)

pub read_next-requires-clause-few : goal.read_next-requires-clause-few
read_next-requires-clause-few g c =
    few_read (g.S.Store.files c.args.store.now) c.args.lines.now c.loop-line.line-index c.loop-line.inputs.groups.items c.loop-line.inputs.processes.items c.loop-line.invariant.read c.loop-line-test.true c.requires.few

pub read_next-requires-clause-models : goal.read_next-requires-clause-models
read_next-requires-clause-models g c = models_moved (g.S.Store.files c.args.store.now) (g.S.Store.files c.loop-line.store) c.loop-line.inputs.groups.items c.loop-line.invariant.same c.loop-line.invariant.read.models

pub loop-line-preserved : goal.loop-line-preserved
loop-line-preserved g c = record {
  same = c.in_ok-read_next.ensures.same ∙ c.loop-line.invariant.same;
  falls = omega (arith, c.in_ok-read_next.ensures.never_falls, c.loop-line.invariant.falls);
  read = read_more (g.S.Store.files c.args.store.now) (g.S.Store.files c.loop-line.store) c.args.lines.now c.loop-line.line-index c.line-item.result c.line-item.result c.loop-line.inputs c.read_next.new.inputs c.loop-line.invariant.same c.loop-line-test.true c.line-item.is c.loop-line.invariant.read c.in_ok-read_next.ensures.read;
}

pub returns-in_err-read_next-clause-stop : goal.returns-in_err-read_next-clause-stop
returns-in_err-read_next-clause-stop g c =
    let w = err_from_is_err_and c.from_residual.result c.from_residual.ensures.1 in
    rw (w.1, w.2)
    (stops_at_line (g.S.Store.files c.args.store.now) (g.S.Store.files c.loop-line.store) c.args.lines.now c.loop-line.line-index c.line-item.result c.line-item.result c.loop-line.inputs.groups.items c.loop-line.inputs.processes.items c.in_err-read_next.field-0.0 _ _ _ c.loop-line.invariant.same c.loop-line-test.true c.line-item.is c.loop-line.invariant.falls c.loop-line.invariant.read c.in_err-read_next.ensures.stop)

pub returns-clause-read : goal.returns-clause-read
returns-clause-read g c =
    let whole : take c.loop-line.line-index c.args.lines.now ≡ c.args.lines.now = take_all c.loop-line.line-index c.args.lines.now (omega arith) in
    subst (λ (ls : List Line). AreRead (g.S.Store.files c.args.store.now) ls c.loop-line.inputs.groups.items c.loop-line.inputs.processes.items) whole c.loop-line.invariant.read
