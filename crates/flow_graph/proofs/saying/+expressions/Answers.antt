use Rattle.std.proofs.Common.{◌∷◌, [], ◌++◌, ◌∙◌, ap, sym}
use Rattle.std.proofs.lemmas.List.{append_assoc, append-nil}
use Rattle.c_tree.specs.View.{ctype_of, expr_of, exprs_of}
use Rattle.c_meaning.specs.Mentions.{Calls, Direct, Through, mentions, mentions_of_all}
use Rattle.c_tree.specs.declared.tree.TExpr.{TExpr}
use Rattle.flow_graph.specs.Saying.{said}
use Rattle.flow_graph.proofs.SayingLemmas.{of_comma, of_call, of_call_through, all_flat, all_of_flat, of_leaf, of_one, of_two, on_same, then_on, two_parts}
use Rattle.flow_graph.proofs.saying.+expressions.Goals as goal

pub add_expression-returns-in-Const : goal.add_expression-returns-in-Const
add_expression-returns-in-Const t c = sym (ap (λ ms. said c.args.into.now.items ++ ms) (of_leaf c.args.e.now c.in-Const.is) ∙ append-nil (said c.args.into.now.items))

pub add_expression-returns-in-Deref : goal.add_expression-returns-in-Deref
add_expression-returns-in-Deref t c =
    on_same c.add_expression-in-Deref.result (said c.args.into.now.items) (said c.add_expression-in-Deref.new.into.items) (mentions (expr_of c.args.e.now)) (mentions (expr_of c.deref-in-Deref.result.now))
    (of_one c.args.e.now c.in-Deref.a c.in-Deref.is ∙ ap (λ a. mentions (expr_of a)) (sym c.deref-in-Deref.ensures)) c.add_expression-in-Deref.ensures

pub add_expression-returns-in_ok-add_expression-in-Arith : goal.add_expression-returns-in_ok-add_expression-in-Arith
add_expression-returns-in_ok-add_expression-in-Arith t c =
    then_on c.add_expression-in-Arith-2.result (said c.args.into.now.items) (said c.add_expression-in-Arith.new.into.items) (said c.add_expression-in-Arith-2.new.into.items) (mentions (expr_of c.in-Arith.a.value)) (mentions (expr_of c.deref-in-Arith-2.result.now)) (mentions (expr_of c.args.e.now))
    (c.in_ok-add_expression-in-Arith.ensures ∙ ap (λ a. said c.args.into.now.items ++ mentions (expr_of a)) c.deref-in-Arith.ensures)
    (of_two c.args.e.now c.in-Arith.a c.in-Arith.b c.in-Arith.is ∙ ap (λ b. mentions (expr_of c.in-Arith.a.value) ++ mentions (expr_of b)) (sym c.deref-in-Arith-2.ensures))
    c.add_expression-in-Arith-2.ensures

pub add_expression-returns-in-Comma : goal.add_expression-returns-in-Comma
add_expression-returns-in-Comma t c = on_same c.add_expressions.result (said c.args.into.now.items) (said c.add_expressions.new.into.items) (mentions (expr_of c.args.e.now)) (mentions_of_all (exprs_of c.deref-in-Comma.result.now)) (of_comma c.args.e.now c.in-Comma.es c.in-Comma.is ∙ ap (λ es. mentions_of_all (exprs_of es)) (sym c.deref-in-Comma.ensures.value)) c.add_expressions.ensures

pub add_expression-returns-in_ok-add-in-Call : goal.add_expression-returns-in_ok-add-in-Call
add_expression-returns-in_ok-add-in-Call t c = then_on c.add_expressions-in-Call.result (said c.args.into.now.items) (said c.add-in-Call.new.into.items) (said c.add_expressions-in-Call.new.into.items) (Calls c.in-Call.site (Direct c.in-Call.function) ∷ []) (mentions_of_all (exprs_of c.deref-in-Call.result.now)) (mentions (expr_of c.args.e.now)) c.in_ok-add-in-Call.ensures (of_call c.args.e.now c.in-Call.site c.in-Call.function c.in-Call.arguments c.in-Call.is ∙ ap (λ es. Calls c.in-Call.site (Direct c.in-Call.function) ∷ mentions_of_all (exprs_of es)) (sym c.deref-in-Call.ensures.value)) c.add_expressions-in-Call.ensures

pub add_expression-returns-in_ok-add-in-CallThrough : goal.add_expression-returns-in_ok-add-in-CallThrough
add_expression-returns-in_ok-add-in-CallThrough t c =
    let d = c.in-CallThrough.designator.value in
    let s = c.in-CallThrough.site in
    let old = said c.args.into.now.items in
    let mid = said c.add_expression-in-CallThrough.new.into.items in
    let last = said c.add-in-CallThrough.new.into.items in
    let first = c.in_ok-add_expression-in-CallThrough.ensures ∙ ap (λ e. old ++ mentions (expr_of e)) c.deref-in-CallThrough.ensures in
    let second = c.in_ok-add-in-CallThrough.ensures ∙ ap (λ (e : TExpr). mid ++ Calls s (Through (ctype_of e.ctype)) ∷ []) c.deref-in-CallThrough-2.ensures in
    let both = two_parts old mid last (mentions (expr_of d)) (Calls s (Through (ctype_of d.ctype)) ∷ []) first second in
    let rest = mentions_of_all (exprs_of c.deref-in-CallThrough-3.result.now) in
    then_on c.add_expressions-in-CallThrough.result old last (said c.add_expressions-in-CallThrough.new.into.items) (mentions (expr_of d) ++ Calls s (Through (ctype_of d.ctype)) ∷ []) rest (mentions (expr_of c.args.e.now)) both
    (of_call_through c.args.e.now s c.in-CallThrough.designator c.in-CallThrough.arguments c.in-CallThrough.is ∙ ap (λ es. mentions (expr_of d) ++ Calls s (Through (ctype_of d.ctype)) ∷ mentions_of_all (exprs_of es)) (sym c.deref-in-CallThrough-3.ensures.value) ∙ sym (append_assoc (mentions (expr_of d)) (Calls s (Through (ctype_of d.ctype)) ∷ []) rest))
    c.add_expressions-in-CallThrough.ensures

pub add_expressions-returns : goal.add_expressions-returns
add_expressions-returns t c = all_of_flat (λ e. mentions (expr_of e)) c.args.es.now c.loop-e.e-index (said c.args.into.now.items) (said c.loop-e.into.items) c.loop-e-test.false c.loop-e.invariant ∙ ap (λ ms. said c.args.into.now.items ++ ms) (sym (all_flat c.args.es.now))
