use Rattle.std.proofs.Common.{rules}
use Rattle.c_rules.specs.Scopes.{layout_of}
use Rattle.c_check_values.specs.View.{env_of}
use Rattle.c_check_units.proofs.LaidLemmas.{cells_on, cells_end, no_type, none_behind}
use Rattle.c_check_units.proofs.bodies.cells_of_types.Goals as goal

pub loop-t-preserved : goal.loop-t-preserved
loop-t-preserved c = (
  cells_on (layout_of (env_of c.args.env.now)) c.args.types.now c.loop-t.t-index c.t-item.result c.loop-t.sum c.in_ok-own.own c.in_ok-sum.sum _ c.loop-t-test.true c.t-item.is
      c.in_ok-sum.ensures.1 c.in_ok-own.ensures.1 c.loop-t.invariant.0,
  search rules,
)

pub returns-in_err-own : goal.returns-in_err-own
returns-in_err-own c =
    no_type (layout_of (env_of c.args.env.now)) c.from_residual.result c.args.types.now c.loop-t.t-index c.t-item.result c.loop-t.sum c.from_residual.ensures c.loop-t-test.true c.t-item.is c.loop-t.invariant.0 c.in_err-own.ensures

pub returns-in_err-sum : goal.returns-in_err-sum
returns-in_err-sum c =
    none_behind (layout_of (env_of c.args.env.now)) c.from_residual-in_err-sum.result c.args.types.now c.loop-t.t-index c.t-item.result c.loop-t.sum c.in_ok-own.own c.from_residual-in_err-sum.ensures c.loop-t-test.true c.t-item.is
    c.in_ok-own.ensures.1 c.loop-t.invariant.0 c.in_err-sum.ensures

pub returns : goal.returns
returns c = cells_end (layout_of (env_of c.args.env.now)) c.args.types.now c.loop-t.t-index c.loop-t.sum c.loop-t-test.false c.loop-t.invariant.0 c.loop-t.invariant.1
