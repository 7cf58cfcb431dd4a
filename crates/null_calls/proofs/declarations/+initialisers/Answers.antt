use Rattle.std.proofs.Common.{◌∙◌, refl, ap}
use Rattle.c_syntax.specs.Tree.{one, list, more_inits}
use Rattle.c_syntax.specs.UnitView.{init_at}
use Rattle.c_syntax.specs.WritesUnit.{inits_of}
use Rattle.c_syntax.proofs.NodeRows.{list_is}
use Rattle.null_calls_expressions.proofs.Turns.{both, alike, node, starts, goes_on, ends}
use Rattle.null_calls.proofs.declarations.+initialisers.Goals as goal

pub init_list-loop-k-init : goal.init_list-loop-k-init
init_list-loop-k-init t c = starts c.new-made.ensures.items

pub init_list-loop-k-preserved : goal.init_list-loop-k-preserved
init_list-loop-k-preserved t c =
    goes_on c.in_ok-one.one c.loop-k.invariant c.loop-k-test.true c.index-list-k.is c.in_ok-push.ensures.items (λ r others q. node (both c.in_ok-one.ensures q) (λ z. more_inits z.0 z.1) refl refl refl refl refl)

pub init_list-returns : goal.init_list-returns
init_list-returns t c = ends c.loop-k.invariant c.loop-k-test.false (λ _ _. refl) refl refl refl

pub init-returns-in_ok-made-in-One : goal.init-returns-in_ok-made-in-One
init-returns-in_ok-made-in-One t c = node c.in_ok-made-in-One.ensures (one c.args.i.now.at) (ap (init_at c.args.i.now.at) c.in-One.is) refl refl refl refl

pub init-returns-in_ok-made-in-List : goal.init-returns-in_ok-made-in-List
init-returns-in_ok-made-in-List t c =
    let at = c.args.i.now.at in
    node (alike (ap inits_of c.deref.ensures.value) c.in_ok-made-in-List.ensures) (list at) (ap (init_at at) c.in-List.is ∙ list_is at c.in-List.list) c.list_node.ensures refl refl refl
