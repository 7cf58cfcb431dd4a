use Rattle.std.proofs.Common.{◌∷◌, [], ◌++◌, ◌∙◌, ap, sym}
use Rattle.c_syntax.specs.View.{expr_of}
use Rattle.c_syntax.specs.Writes.{exprs_of}
use Rattle.c_rules.specs.PlacesOfCalls.{places, places_of_all}
use Rattle.c_check_counts.proofs.CallLists.{exprs_flat}
use Rattle.c_check_counts.proofs.Lists.{more_flat, all_flat, on_same, then_on, none_on, two_then_on}
use Rattle.c_check_counts.proofs.CallNodes.{in_kind, in_leaf, in_one, in_two, in_comma, in_call}
use Rattle.c_check_counts.proofs.calls_in_expressions.+places_in_trees.Goals as goal

pub add_expression-returns-in-Comma : goal.add_expression-returns-in-Comma
add_expression-returns-in-Comma t c =
    on_same c.add_expressions.result c.args.into.now.items c.add_expressions.new.into.items (places (expr_of c.args.e.now)) (places_of_all (exprs_of c.deref.result.now))
    (in_comma c.args.e.now c.in-Comma.es c.in-Comma.is ∙ ap (λ es. places_of_all (exprs_of es)) (sym c.deref.ensures.value)) c.add_expressions.ensures

pub add_expressions-returns : goal.add_expressions-returns
add_expressions-returns t c =
    all_flat (λ e. places (expr_of e)) c.args.es.now c.loop-e.e-index c.args.into.now.items c.loop-e.into.items (places_of_all (exprs_of c.args.es.now)) c.loop-e-test.false (exprs_flat c.args.es.now) c.loop-e.invariant

pub add_expression-returns-in_ok-push-in-Call : goal.add_expression-returns-in_ok-push-in-Call
add_expression-returns-in_ok-push-in-Call t c =
    two_then_on c.add_expressions-in-Call.result c.args.into.now.items c.add_expression.new.into.items c.push.new.self.items c.add_expressions-in-Call.new.into.items
    (places (expr_of c.deref-in-Call.result.now)) (c.args.e.now.at ∷ []) (places_of_all (exprs_of c.deref-in-Call-2.result.now)) (places (expr_of c.args.e.now))
    c.in_ok-add_expression-in-Call.ensures c.in_ok-push-in-Call.ensures.items
    (in_call c.args.e.now c.in-Call.d c.in-Call.es c.in-Call.is
    ∙ ap (λ d. places (expr_of d) ++ c.args.e.now.at ∷ places_of_all (exprs_of c.in-Call.es.items)) (sym c.deref-in-Call.ensures)
    ∙ ap (λ es. places (expr_of c.deref-in-Call.result.now) ++ c.args.e.now.at ∷ places_of_all (exprs_of es)) (sym c.deref-in-Call-2.ensures.value))
    c.add_expressions-in-Call.ensures

pub add_expression-returns-in-Name : goal.add_expression-returns-in-Name
add_expression-returns-in-Name t c = none_on c.args.into.now.items (places (expr_of c.args.e.now)) (in_leaf c.args.e.now c.in-Name.is)

pub add_expression-returns-in-Cast : goal.add_expression-returns-in-Cast
add_expression-returns-in-Cast t c =
    on_same c.add_expression-in-Cast.result c.args.into.now.items c.add_expression-in-Cast.new.into.items (places (expr_of c.args.e.now)) (places (expr_of c.deref-in-Cast.result.now))
    (in_one c.args.e.now c.in-Cast.a c.in-Cast.is ∙ ap (λ a. places (expr_of a)) (sym c.deref-in-Cast.ensures)) c.add_expression-in-Cast.ensures

pub add_expression-returns-in_ok-add_expression-in-Index : goal.add_expression-returns-in_ok-add_expression-in-Index
add_expression-returns-in_ok-add_expression-in-Index t c =
    then_on c.add_expression-in-Index-2.result c.args.into.now.items c.add_expression-in-Index.new.into.items c.add_expression-in-Index-2.new.into.items (places (expr_of c.deref-in-Index.result.now)) (places (expr_of c.deref-in-Index-2.result.now)) (places (expr_of c.args.e.now))
    c.in_ok-add_expression-in-Index.ensures
    (in_two c.args.e.now c.in-Index.a c.in-Index.b c.in-Index.is ∙ (λ i. places (expr_of (sym c.deref-in-Index.ensures i)) ++ places (expr_of (sym c.deref-in-Index-2.ensures i))))
    c.add_expression-in-Index-2.ensures

pub add_expression-returns-in_ok-add_expression-in-Cond-2 : goal.add_expression-returns-in_ok-add_expression-in-Cond-2
add_expression-returns-in_ok-add_expression-in-Cond-2 t c =
    two_then_on c.add_expression-in-Cond-3.result c.args.into.now.items c.add_expression-in-Cond.new.into.items c.add_expression-in-Cond-2.new.into.items c.add_expression-in-Cond-3.new.into.items (places (expr_of c.deref-in-Cond.result.now)) (places (expr_of c.deref-in-Cond-2.result.now)) (places (expr_of c.deref-in-Cond-3.result.now)) (places (expr_of c.args.e.now))
    c.in_ok-add_expression-in-Cond.ensures c.in_ok-add_expression-in-Cond-2.ensures
    (in_kind c.args.e.now _ c.in-Cond.is ∙ (λ i. places (expr_of (sym c.deref-in-Cond.ensures i)) ++ (places (expr_of (sym c.deref-in-Cond-2.ensures i)) ++ places (expr_of (sym c.deref-in-Cond-3.ensures i)))))
    c.add_expression-in-Cond-3.ensures

pub add_expressions-loop-e-preserved : goal.add_expressions-loop-e-preserved
add_expressions-loop-e-preserved t c =
    more_flat (λ e. places (expr_of e)) c.args.es.now c.loop-e.e-index c.e-item.result c.args.into.now.items c.loop-e.into.items c.add_expression.new.into.items c.loop-e-test.true c.e-item.is c.loop-e.invariant c.in_ok-add_expression.ensures
