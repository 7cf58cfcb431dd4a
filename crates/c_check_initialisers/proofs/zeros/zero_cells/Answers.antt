use Rattle.std.proofs.Common.{ap}
use Rattle.c_check_initialisers.specs.CellView.{typed_expressions_of}
use Rattle.c_check_initialisers.proofs.ZeroLemmas.{zeros_are}
use Rattle.c_check_initialisers.proofs.zeros.zero_cells.Goals as goal
use Rattle.c_rules.specs.Scopes.{layout_of}
use Rattle.c_check_values.specs.View.{env_of}
use Rattle.c_tree.specs.View.{ctype_of}

pub returns : goal.returns
returns c =
    zeros_are (layout_of (env_of c.args.env.now)) c.struct_count.result (ctype_of c.args.t.now) (typed_expressions_of c.new-cells.result.items) (typed_expressions_of c.add_zeros.new.cells.items) c.struct_count.ensures
    (ap typed_expressions_of c.new-cells.ensures.items) c.in_ok-add_zeros.ensures
