use Rattle.std.proofs.Common.{◌∙◌, ap}
use Rattle.std.proofs.lemmas.Result.{IfOk-weaker}
use Rattle.c_syntax.specs.Tree.{a_name, more_exprs}
use Rattle.c_syntax.specs.View.{expr_of}
use Rattle.null_calls_temporaries.specs.Sited.{type_where}
use Rattle.null_calls_temporaries.specs.InstrumentedExpressions as marks
use Rattle.null_calls_expressions.specs.Lists.{exprs_onto}
use Rattle.null_calls_expressions.proofs.ExprLemmas.{on_like}
use Rattle.null_calls_expressions.proofs.MarkedLemmas.{keeps_some, gives_some}
use Rattle.null_calls_expressions.proofs.marked.add_designator.Goals as goal

pub returns-in_ok-again-in-Some-clause-keeps : goal.returns-in_ok-again-in-Some-clause-keeps
returns-in_ok-again-in-Some-clause-keeps c =
    let old = c.args.list.now.items in
    on_like c.add_kept.result (λ step. keeps_some c.args.at c.args.site (type_where c.args.pointer_type) _ (expr_of c.args.designator) old c.add_kept.new.list.items (ap type_where c.in-Some.is)
    (λ rest. step rest ∙ ap (λ n. exprs_onto old (more_exprs (marks.kept_in c.args.at n (expr_of c.args.designator)) rest)) c.in_ok-name-in-Some.ensures)) c.add_kept.ensures.keeps

pub returns-in_ok-again-in-Some-clause-gives : goal.returns-in_ok-again-in-Some-clause-gives
returns-in_ok-again-in-Some-clause-gives c =
    IfOk-weaker c.add_kept.result _ _ (λ made is. gives_some c.args.at c.args.site (type_where c.args.pointer_type) _ (expr_of c.args.designator) (expr_of made) (ap type_where c.in-Some.is) (is ∙ ap (a_name c.args.at) c.in_ok-again-in-Some.ensures)) c.add_kept.ensures.gives
