use Rattle.std.proofs.lemmas.Result.{err_from_is_err_and}
use Rattle.line_text.proofs.Splits.{err_first, err_next, ok_both}
use Rattle.certify_file.proofs.LineLemmas.{pair_split}
use Rattle.certify_file.proofs.numbers.take_pair.Goals as goal

pub returns-in_err-first : goal.returns-in_err-first
returns-in_err-first c =
    let rest = c.take_number.new.cursor.rest.now in
    let p = err_from_is_err_and c.from_residual.result c.from_residual.ensures.1 in
    rw (p.1, p.2) (err_first (pair_split c.args.end) _ rest rest _ c.in_err-first.ensures)

pub returns-in_err-second : goal.returns-in_err-second
returns-in_err-second c =
    let from = c.from_residual-in_err-second in
    let p = err_from_is_err_and from.result from.ensures.1 in
    rw (p.1, p.2) (err_next (pair_split c.args.end) _ _ c.take_number-2.new.cursor.rest.now c.in_ok-first.first c.in_ok-first.ensures _ c.in_err-second.ensures)

pub returns : goal.returns
returns c = ok_both (pair_split c.args.end) _ _ _ c.in_ok-first.first c.in_ok-second.second c.in_ok-first.ensures c.in_ok-second.ensures
