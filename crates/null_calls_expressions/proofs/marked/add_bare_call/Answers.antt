use Rattle.c_syntax.specs.View.{expr_of}
use Rattle.null_calls_expressions.proofs.ExprLemmas.{on_like}
use Rattle.null_calls_expressions.proofs.MarkedLemmas.{post_unwanted}
use Rattle.null_calls_expressions.proofs.marked.add_bare_call.Goals as goal

pub returns : goal.returns
returns c = on_like c.add_post.result (post_unwanted c.args.at c.args.site (expr_of c.args.one) c.args.list.now.items c.add.new.list.items c.add_post.new.list.items c.in_ok-add.ensures) c.add_post.ensures
