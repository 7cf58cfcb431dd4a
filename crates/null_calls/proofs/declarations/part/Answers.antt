use Rattle.std.proofs.Common.{refl, ap}
use Rattle.c_syntax.specs.Tree.{more_parts}
use Rattle.c_syntax.specs.View.{declarator_of}
use Rattle.c_syntax.specs.UnitView.{maybe_init_of}
use Rattle.null_calls_expressions.proofs.Turns.{first}
use Rattle.null_calls.proofs.declarations.part.Goals as goal

pub returns : goal.returns
returns c =
    first c.in_ok-init.ensures (more_parts (declarator_of c.args.p.now.declarator)) refl (ap (λ d. more_parts d (maybe_init_of c.in_ok-init.init)) c.in_ok-declarator.ensures) (λ _. refl) (λ _. refl) (λ _. refl)
