use Rattle.inline_model.proofs.InliningLemmas.{not_too_many}
use Rattle.inline_model.proofs.inlining.copies_of.Goals as goal

pub returns-in-Ok-clause-few : goal.returns-in-Ok-clause-few
returns-in-Ok-clause-few c = not_too_many c.args.model.now c.in-Ok.items.items c.in-Ok.ensures.ok

pub returns-in-Err-TooManyNodes-clause-err : goal.returns-in-Err-TooManyNodes-clause-err
returns-in-Err-TooManyNodes-clause-err c = (c.requires.bounded, c.in-Err-TooManyNodes.ensures.err c.requires.bounded.0 c.requires.bounded.1 c.in-Err-TooManyNodes.field-0-is)
