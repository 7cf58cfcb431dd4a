use Rattle.c_check_initialisers.proofs.SlotLemmas.{each_more}
use Rattle.c_check_initialisers.proofs.slots.add_each.Goals as goal
use Rattle.c_check_initialisers.specs.CellView.{typed_expressions_of}
use Rattle.c_rules.specs.Scopes.{layout_of}
use Rattle.c_check_values.specs.View.{env_of}

pub loop-t-preserved : goal.loop-t-preserved
loop-t-preserved c =
    each_more (layout_of (env_of c.args.env.now)) c.args.ts.now c.loop-t.t-index c.t-item.result (typed_expressions_of c.args.cells.now.items) (typed_expressions_of c.loop-t.cells.items) (typed_expressions_of c.add_zeros.new.cells.items) c.loop-t-test.true c.t-item.is c.loop-t.invariant c.in_ok-add_zeros.ensures
