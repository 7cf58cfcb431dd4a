use Rattle.std.proofs.Common.{◌≡◌, None, Some, ap, sym, subst}
use Rattle.c_syntax.specs.View.{expr_of}
use Rattle.c_syntax.specs.Writes.{exprs_of}
use Rattle.null_calls_temporaries.proofs.CopyLemmas.{made_as}
use Rattle.null_calls_temporaries.specs.Sited.{called_of, IsCallAt}
use Rattle.null_calls_temporaries.specs.InstrumentedExpressions as marks
use Rattle.null_calls_expressions.proofs.marked.call_where.Goals as goal

pub returns-in-None : goal.returns-in-None
returns-in-None c = λ site called is.
    let none : called ≡ None = subst (λ m. IsCallAt m site called) c.in-None.is is in
    made_as expr_of c.call_node.result _ _ (ap (λ o. marks.call_where c.args.at site c.args.wanted o (expr_of c.args.designator) (exprs_of c.args.arguments.items)) (sym none)) c.call_node.ensures

pub returns-in-Some : goal.returns-in-Some
returns-in-Some c = λ site called is.
    let there : IsCallAt (Some c.in-Some.one) site called = subst (λ m. IsCallAt m site called) c.in-Some.is is in
    made_as expr_of c.marked_call.result _ _ (λ i. marks.call_where c.args.at (there.0 i) c.args.wanted (sym there.1 i) (expr_of c.args.designator) (exprs_of c.args.arguments.items)) c.marked_call.ensures
