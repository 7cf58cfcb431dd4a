use Rattle.std.proofs.Common.{◌∙◌, ap, sym}
use Rattle.c_syntax.specs.View.{expr_of}
use Rattle.c_syntax.specs.UnitView.{init_at, init_of}
use Rattle.c_syntax.specs.WritesUnit.{inits_of}
use Rattle.c_rules.specs.PlacesOfCalls.{places, places_of_init, places_of_inits}
use Rattle.c_check_counts.proofs.CallLists.{inits_flat}
use Rattle.c_check_counts.proofs.Lists.{more_flat, all_flat, on_same}
use Rattle.c_check_counts.proofs.CallNodes.{in_list}
use Rattle.c_check_counts.proofs.calls_in_declarations.+places_in_initialisers.Goals as goal

pub add_initialiser-returns-in-List : goal.add_initialiser-returns-in-List
add_initialiser-returns-in-List t c =
    on_same c.add_initialisers.result c.args.into.now.items c.add_initialisers.new.into.items (places_of_init (init_of c.args.init.now)) (places_of_inits (inits_of c.deref.result.now))
    (in_list c.args.init.now c.in-List.all c.in-List.is ∙ ap (λ is. places_of_inits (inits_of is)) (sym c.deref.ensures.value)) c.add_initialisers.ensures

pub add_initialisers-returns : goal.add_initialisers-returns
add_initialisers-returns t c =
    all_flat (λ i. places_of_init (init_of i)) c.args.all.now c.loop-init.init-index c.args.into.now.items c.loop-init.into.items (places_of_inits (inits_of c.args.all.now)) c.loop-init-test.false (inits_flat c.args.all.now) c.loop-init.invariant

pub add_initialiser-returns-in-One : goal.add_initialiser-returns-in-One
add_initialiser-returns-in-One t c =
    on_same c.add_expression.result c.args.into.now.items c.add_expression.new.into.items (places_of_init (init_of c.args.init.now)) (places (expr_of c.in-One.e)) (ap (λ k. places_of_init (init_at c.args.init.now.at k)) c.in-One.is) c.add_expression.ensures

pub add_initialisers-loop-init-preserved : goal.add_initialisers-loop-init-preserved
add_initialisers-loop-init-preserved t c =
    more_flat (λ i. places_of_init (init_of i)) c.args.all.now c.loop-init.init-index c.init-item.result c.args.into.now.items c.loop-init.into.items c.add_initialiser.new.into.items c.loop-init-test.true c.init-item.is c.loop-init.invariant c.in_ok-add_initialiser.ensures
