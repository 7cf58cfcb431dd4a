use Rattle.std.proofs.lemmas.Result.{err_from_is_err_and}
use Rattle.line_text.proofs.Splits.{err_first}
use Rattle.certify_file.proofs.LineLemmas.{label_pair_split}
use Rattle.certify_file.proofs.Parts.{is_in_line-plain, then_next}
use Rattle.certify_file.proofs.numbers.take_labelled_pair.Goals as goal

pub take-requires : goal.take-requires
take-requires c = is_in_line-plain c.args.label.now c.requires.label

pub returns-in_err-take : goal.returns-in_err-take
returns-in_err-take c =
    let p = err_from_is_err_and c.from_residual.result c.from_residual.ensures.1 in
    let rest = c.take.new.self.rest.now in
    rw (p.1, p.2) (err_first (label_pair_split c.args.label.now c.args.end c.requires.label) _ rest rest _ c.in_err-take.ensures.reads)

pub returns : goal.returns
returns c = then_next (label_pair_split c.args.label.now c.args.end c.requires.label) _ _ _ tt c.in_ok-take.ensures.reads _ c.take_pair.ensures
