use Rattle.std.proofs.lemmas.Result.{err_from_is_err_and}
use Rattle.line_text.proofs.Splits.{err_first, err_next, ok_both}
use Rattle.certify_file.proofs.LineLemmas.{at_split, place_split}
use Rattle.certify_file.proofs.fact_line.take_at_line.Goals as goal

pub returns-in_err-k : goal.returns-in_err-k
returns-in_err-k c =
    let rest = c.take_labelled_pair.new.cursor.rest.now in
    let p = err_from_is_err_and c.from_residual.result c.from_residual.ensures.1 in
    rw (p.1, p.2) (err_first at_split _ rest rest _ c.in_err-k.ensures)

pub returns-in_err-f : goal.returns-in_err-f
returns-in_err-f c =
    let from = c.from_residual-in_err-f in
    let p = err_from_is_err_and from.result from.ensures.1 in
    let rest = c.take_pair.new.cursor.rest.now in
    rw (p.1, p.2) (err_next at_split _ _ rest (c.in_ok-k.k, c.in_ok-k.i) c.in_ok-k.ensures _ (err_first place_split _ rest rest _ c.in_err-f.ensures))

pub returns-in_err-reason : goal.returns-in_err-reason
returns-in_err-reason c =
    let from = c.from_residual-in_err-reason in
    let p = err_from_is_err_and from.result from.ensures.1 in
    let rest = c.take_reason.new.cursor.rest.now in
    rw (p.1, p.2) (err_next at_split _ _ rest (c.in_ok-k.k, c.in_ok-k.i) c.in_ok-k.ensures _ (err_next place_split _ _ rest (c.in_ok-f.f, c.in_ok-f.v) c.in_ok-f.ensures _ c.in_err-reason.ensures))

pub returns : goal.returns
returns c =
    ok_both at_split _ _ _ (c.in_ok-k.k, c.in_ok-k.i) ((c.in_ok-f.f, c.in_ok-f.v), c.in_ok-reason.reason) c.in_ok-k.ensures
    (ok_both place_split _ _ _ (c.in_ok-f.f, c.in_ok-f.v) c.in_ok-reason.reason c.in_ok-f.ensures c.in_ok-reason.ensures)
