use Rattle.std.proofs.Common.{◌++◌, ◌∙◌, ap, sym}
use Rattle.c_tree.specs.View.{expr_of}
use Rattle.c_meaning.specs.Mentions.{mentions}
use Rattle.c_tree.specs.declared.tree.TInit.{TInit}
use Rattle.flow_graph.specs.Saying.{said}
use Rattle.flow_graph.proofs.SayingLemmas.{inits_flat, all_of_flat}
use Rattle.flow_graph.proofs.saying.add_inits.Goals as goal

pub returns : goal.returns
returns c = all_of_flat (λ (i : TInit). mentions (expr_of i.value)) c.args.inits.now c.loop-init.init-index (said c.args.into.now.items) (said c.loop-init.into.items) c.loop-init-test.false c.loop-init.invariant ∙ ap (λ ms. said c.args.into.now.items ++ ms) (sym (inits_flat c.args.inits.now))
