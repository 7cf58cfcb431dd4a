use Rattle.std.proofs.Common.{◌∙◌, ap}
use Rattle.c_syntax.specs.Tree.{a_name, more_exprs}
use Rattle.c_syntax.specs.View.{expr_of}
use Rattle.null_calls_temporaries.specs.InstrumentedExpressions as marks
use Rattle.null_calls_temporaries.proofs.CopyLemmas.{made_as}
use Rattle.null_calls_expressions.specs.Lists.{exprs_onto}
use Rattle.null_calls_expressions.proofs.ExprLemmas.{on_like}
use Rattle.null_calls_expressions.proofs.marked.add_argument.Goals as goal

pub returns-clause-keeps : goal.returns-clause-keeps
returns-clause-keeps c = on_like c.add_kept.result (λ step rest. step rest ∙ ap (λ n. exprs_onto c.args.list.now.items (more_exprs (marks.kept_in c.args.at n (expr_of c.args.one)) rest)) c.in_ok-name.ensures) c.add_kept.ensures.keeps

pub returns-clause-gives : goal.returns-clause-gives
returns-clause-gives c = made_as expr_of c.add_kept.result _ _ (ap (a_name c.args.at) c.in_ok-again.ensures) c.add_kept.ensures.gives
