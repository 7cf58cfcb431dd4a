use Rattle.std.proofs.lemmas.Result.{err_from_is_err_and}
use Rattle.c_lexer.proofs.KindsBegin.{class_token}
use Rattle.c_lexer.proofs.KindsRuns.{number_longest}
use Rattle.c_lexer.proofs.NumberParts.{number_class, number_misfit}
use Rattle.c_lexer.proofs.number.read_number.Goals as goal

pub returns : goal.returns
returns c =
    let taken = number_longest c.args.text.now c.run_length-length.result c.requires c.run_length-length.ensures in
    (c.run_length-length.ensures.within, class_token number_class taken c.in_ok-kind.kind c.in_ok-kind.ensures)

pub returns-in_err-kind : goal.returns-in_err-kind
returns-in_err-kind c =
    let taken = number_longest c.args.text.now c.run_length-length.result c.requires c.run_length-length.ensures in
    let p = err_from_is_err_and c.from_residual.result c.from_residual.ensures.1 in
    rw (p.1, p.2) (number_misfit c.in_err-kind.field-0.0 _ _ _ taken c.in_err-kind.ensures)
