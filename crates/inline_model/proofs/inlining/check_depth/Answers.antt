use Rattle.inline_model.proofs.inlining.check_depth.Goals as goal

pub returns-in-Ok-clause-ok : goal.returns-in-Ok-clause-ok
returns-in-Ok-clause-ok c = c.greatest_alone.ensures.ok c.args.model.now c.in-Ok.ensures.length

pub returns-in-Ok-clause-err : goal.returns-in-Ok-clause-err
returns-in-Ok-clause-err c = c.greatest_alone.ensures.err c.args.model.now c.in-Ok.ensures.length
