use Rattle.std.proofs.Common.{◌++◌, ◌∷◌, [], ◌∙◌, ap}
use Rattle.c_tree.specs.View.{ctype_of}
use Rattle.null_calls_temporaries.specs.Kept.{temporaries_of}
use Rattle.null_calls_temporaries.proofs.KeptLemmas.{argument_more, arguments_end}
use Rattle.null_calls_temporaries.proofs.temporaries.add_arguments.Goals as goal

pub loop-i-preserved : goal.loop-i-preserved
loop-i-preserved c =
    argument_more c.args.site c.args.ts.now c.loop-i.i c.index-ts-i.result (temporaries_of c.loop-i.into.items) (temporaries_of c.add.new.into.items) _ c.loop-i-test.true c.index-ts-i.is c.loop-i.invariant
    (c.in_ok-add.ensures ∙ ap (λ n. temporaries_of c.loop-i.into.items ++ record { name = n; ctype = ctype_of c.index-ts-i.result } ∷ []) c.in_ok-name.ensures)

pub returns : goal.returns
returns c = arguments_end c.args.site c.args.ts.now c.loop-i.i (temporaries_of c.loop-i.into.items) _ c.loop-i-test.false c.loop-i.invariant
