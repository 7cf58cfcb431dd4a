use Rattle.inline_model.proofs.InliningLemmas.{bounded_by, unbounded_by}
use Rattle.inline_model.proofs.inlining.greatest_alone.Goals as goal

pub returns-in-Greatest-clause-ok : goal.returns-in-Greatest-clause-ok
returns-in-Greatest-clause-ok c = λ g has. bounded_by g c.args.depth.now _ c.in-Greatest.is has

pub returns-in-Unbounded-clause-err : goal.returns-in-Unbounded-clause-err
returns-in-Unbounded-clause-err c = λ g has. unbounded_by g c.args.depth.now _ _ c.in-Unbounded.is has
