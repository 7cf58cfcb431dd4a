-- For private contracts and proofs alone: expressions before others.
use Rattle.std.specs.Prelude.{List, [], ◌∷◌}
use Rattle.c_syntax.specs.declared.tree.Expr.{Expr as ExprTree}
use Rattle.c_syntax.specs.Tree.{Exprs, more_exprs}
use Rattle.c_syntax.specs.View.{expr_of}

abbrev pub exprs_onto : List ExprTree → Exprs → Exprs
exprs_onto [] rest = rest
exprs_onto (e ∷ es) rest = more_exprs (expr_of e) (exprs_onto es rest)
