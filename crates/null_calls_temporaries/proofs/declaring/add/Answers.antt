use Rattle.std.proofs.Common.{ap, ◌∙◌}
use Rattle.c_syntax.specs.declared.tree.BlockItem.TheVariants.{Declaration}
use Rattle.null_calls_temporaries.specs.Kept.{items_onto}
use Rattle.null_calls_temporaries.proofs.KeptLemmas.{onto_more}
use Rattle.null_calls_temporaries.proofs.declaring.add.Goals as goal

pub returns : goal.returns
returns c rest = ap (λ xs. items_onto xs rest) c.in_ok-push.ensures.items ∙ onto_more c.args.items.now.items (Declaration c.args.one) rest
