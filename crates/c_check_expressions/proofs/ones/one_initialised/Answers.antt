use Rattle.std.proofs.Common.{ap, sym, ◌∙◌}
use Rattle.c_check_initialisers.specs.CellView.{cells_of}
use Rattle.c_check_expressions.proofs.InitLemmas.{array_counted, array_judged}
use Rattle.c_check_expressions.proofs.ones.one_initialised.Goals as goal
use Rattle.c_rules.specs.Expressions.{value}
use Rattle.c_rules.specs.Initialisers.{text_of}
use Rattle.c_check_counts.specs.View.{before_of, env_of}
use Rattle.c_syntax.specs.View.{expr_of}
use Rattle.c_tree.specs.Tree.{array}
use Rattle.c_tree.specs.View.{ctype_of}

pub returns-in-Array-clause-judged : goal.returns-in-Array-clause-judged
returns-in-Array-clause-judged c =
    array_judged cells_of c.array_cells.result c.args.is_static c.args.at c.in-Array.n (ctype_of c.args.t.now) (ctype_of c.deref.result.now) (text_of (expr_of c.args.e.now)) (value (env_of c.args.env.now) (before_of c.args.before.now) (expr_of c.args.e.now))
    (ap ctype_of c.in-Array.is ∙ ap (λ u. array (ctype_of u) c.in-Array.n) (sym c.deref.ensures)) c.array_cells.ensures

pub returns-in-Array-clause-counted : goal.returns-in-Array-clause-counted
returns-in-Array-clause-counted c =
    array_counted cells_of c.array_cells.result (ctype_of c.args.t.now) (ctype_of c.deref.result.now) (expr_of c.args.e.now) c.in-Array.n c.args.at (before_of c.args.before.now)
    (ap ctype_of c.in-Array.is ∙ ap (λ u. array (ctype_of u) c.in-Array.n) (sym c.deref.ensures)) c.array_cells.ensures
