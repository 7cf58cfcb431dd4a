use Rattle.std.proofs.Common.{arith}
use Rattle.model_file.proofs.WritingLemmas.{formed}
use Rattle.model_file.proofs.writing.write_model.Goals as goal

pub returns-clause-formed : goal.returns-clause-formed
returns-clause-formed c =
    formed c.args.model.now c.in_ok-text.text.items c.in_ok-text.ensures.valid c.in_ok-text.ensures.small c.in_ok-text.ensures.text (omega (arith, c.len.ensures, c.if-len-gt-LONGEST.false))
