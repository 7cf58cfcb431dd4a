use Rattle.std.proofs.Common.{refl, ap}
use Rattle.c_syntax.specs.Tree.{there}
use Rattle.c_syntax.specs.View.{expr_behind, expr_of}
use Rattle.null_calls_expressions.proofs.Turns.{alike, node, leaf}
use Rattle.null_calls.proofs.declarations.maybe.Goals as goal

pub returns-in_ok-boxed-in-Some : goal.returns-in_ok-boxed-in-Some
returns-in_ok-boxed-in-Some c =
    node (alike (ap expr_of c.deref.ensures) c.in_ok-made-in-Some.ensures) there (ap expr_behind c.in-Some.is) (ap (λ x. there (expr_of x)) c.in_ok-boxed-in-Some.ensures.ok) refl refl refl

pub returns-in-None : goal.returns-in-None
returns-in-None c = leaf (ap expr_behind c.in-None.is) refl refl refl refl
