use Rattle.std.proofs.lemmas.Result.{err_from_is_err_and}
use Rattle.line_text.proofs.Splits.{err_first}
use Rattle.certify_file.proofs.LineLemmas.{which_split}
use Rattle.certify_file.proofs.Parts.{then_next}
use Rattle.certify_file.proofs.head.take_which_line.Goals as goal

pub returns-in_err-take : goal.returns-in_err-take
returns-in_err-take c =
    let rest = c.take.new.self.rest.now in
    let p = err_from_is_err_and c.from_residual.result c.from_residual.ensures.1 in
    rw (p.1, p.2) (err_first which_split _ rest rest _ c.in_err-take.ensures.reads)

pub returns : goal.returns
returns c = then_next which_split _ _ _ tt c.in_ok-take.ensures.reads _ c.take_judge.ensures
