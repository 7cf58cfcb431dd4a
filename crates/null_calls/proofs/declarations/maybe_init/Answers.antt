use Rattle.std.proofs.Common.{refl, ap}
use Rattle.c_syntax.specs.Tree.{an_init}
use Rattle.c_syntax.specs.UnitView.{maybe_init_of}
use Rattle.null_calls_expressions.proofs.Turns.{node, leaf}
use Rattle.null_calls.proofs.declarations.maybe_init.Goals as goal

pub returns-in_ok-made-in-Some : goal.returns-in_ok-made-in-Some
returns-in_ok-made-in-Some c = node c.in_ok-made-in-Some.ensures an_init (ap maybe_init_of c.in-Some.is) refl refl refl refl

pub returns-in-None : goal.returns-in-None
returns-in-None c = leaf (ap maybe_init_of c.in-None.is) refl refl refl refl
