use Rattle.std.proofs.lemmas.Result.{err_from_is_err_and}
use Rattle.line_text.proofs.Splits.{err_first, err_next, ok_both}
use Rattle.certify_file.proofs.LineLemmas.{link_split, callers_split}
use Rattle.certify_file.proofs.fact_line.take_link_line.Goals as goal

pub returns-in_err-i : goal.returns-in_err-i
returns-in_err-i c =
    let rest = c.take_labelled_pair.new.cursor.rest.now in
    let p = err_from_is_err_and c.from_residual.result c.from_residual.ensures.1 in
    rw (p.1, p.2) (err_first link_split _ rest rest _ c.in_err-i.ensures)

pub returns-in_err-j : goal.returns-in_err-j
returns-in_err-j c =
    let from = c.from_residual-in_err-j in
    let p = err_from_is_err_and from.result from.ensures.1 in
    let rest = c.take_pair.new.cursor.rest.now in
    rw (p.1, p.2) (err_next link_split _ _ rest (c.in_ok-i.i, c.in_ok-i.f) c.in_ok-i.ensures _ (err_first callers_split _ rest rest _ c.in_err-j.ensures))

pub returns-in_err-s : goal.returns-in_err-s
returns-in_err-s c =
    let from = c.from_residual-in_err-s in
    let p = err_from_is_err_and from.result from.ensures.1 in
    let rest = c.take_pair-2.new.cursor.rest.now in
    rw (p.1, p.2) (err_next link_split _ _ rest (c.in_ok-i.i, c.in_ok-i.f) c.in_ok-i.ensures _ (err_next callers_split _ _ rest (c.in_ok-j.j, c.in_ok-j.g) c.in_ok-j.ensures _ c.in_err-s.ensures))

pub returns : goal.returns
returns c =
    ok_both link_split _ _ _ (c.in_ok-i.i, c.in_ok-i.f) ((c.in_ok-j.j, c.in_ok-j.g), (c.in_ok-s.s, c.in_ok-s.caller)) c.in_ok-i.ensures
    (ok_both callers_split _ _ _ (c.in_ok-j.j, c.in_ok-j.g) (c.in_ok-s.s, c.in_ok-s.caller) c.in_ok-j.ensures c.in_ok-s.ensures)
