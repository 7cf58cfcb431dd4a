use Rattle.std.proofs.Common.{refl, ap}
use Rattle.c_syntax.specs.Tree.{first_expr, first_decl}
use Rattle.c_syntax.specs.View.{expr_of}
use Rattle.c_syntax.specs.UnitView.{first_of_head}
use Rattle.null_calls_expressions.proofs.Turns.{alike, node, leaf}
use Rattle.null_calls.proofs.statements.head.Goals as goal

pub returns-in-Absent : goal.returns-in-Absent
returns-in-Absent c = leaf (ap first_of_head c.in-Absent.is) refl refl refl refl

pub returns-in_ok-boxed-in-Expr : goal.returns-in_ok-boxed-in-Expr
returns-in_ok-boxed-in-Expr c =
    node (alike (ap expr_of c.deref.ensures) c.in_ok-made-in-Expr.ensures) first_expr (ap first_of_head c.in-Expr.is) (ap (λ x. first_expr (expr_of x)) c.in_ok-boxed-in-Expr.ensures.ok) refl refl refl

pub returns-in_ok-made-in-Declaration : goal.returns-in_ok-made-in-Declaration
returns-in_ok-made-in-Declaration c = node c.in_ok-made-in-Declaration.ensures first_decl (ap first_of_head c.in-Declaration.is) refl refl refl refl
