use Rattle.c_check_initialisers.proofs.SlotLemmas.{copy_more}
use Rattle.c_check_initialisers.proofs.slots.add_copies.Goals as goal
use Rattle.c_check_initialisers.specs.CellView.{typed_expressions_of}
use Rattle.c_rules.specs.Scopes.{layout_of}
use Rattle.c_check_values.specs.View.{env_of}
use Rattle.c_tree.specs.View.{ctype_of}

pub loop-preserved : goal.loop-preserved
loop-preserved c =
    copy_more (layout_of (env_of c.args.env.now)) c.loop.counter (ctype_of c.args.t.now) (typed_expressions_of c.args.cells.now.items) (typed_expressions_of c.loop.cells.items) (typed_expressions_of c.add_zeros.new.cells.items) c.loop.invariant c.in_ok-add_zeros.ensures
