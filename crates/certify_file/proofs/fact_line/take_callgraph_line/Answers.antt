use Rattle.std.proofs.lemmas.Result.{err_from_is_err_and}
use Rattle.line_text.proofs.Splits.{err_first, err_next, ok_both}
use Rattle.certify_file.proofs.LineLemmas.{callgraph_split}
use Rattle.certify_file.proofs.fact_line.take_callgraph_line.Goals as goal

pub returns-in_err-k : goal.returns-in_err-k
returns-in_err-k c =
    let rest = c.take_labelled_pair.new.cursor.rest.now in
    let p = err_from_is_err_and c.from_residual.result c.from_residual.ensures.1 in
    rw (p.1, p.2) (err_first callgraph_split _ rest rest _ c.in_err-k.ensures)

pub returns-in_err-reason : goal.returns-in_err-reason
returns-in_err-reason c =
    let from = c.from_residual-in_err-reason in
    let p = err_from_is_err_and from.result from.ensures.1 in
    rw (p.1, p.2) (err_next callgraph_split _ _ c.take_reason.new.cursor.rest.now (c.in_ok-k.k, c.in_ok-k.v) c.in_ok-k.ensures _ c.in_err-reason.ensures)

pub returns : goal.returns
returns c = ok_both callgraph_split _ _ _ (c.in_ok-k.k, c.in_ok-k.v) c.in_ok-reason.reason c.in_ok-k.ensures c.in_ok-reason.ensures
