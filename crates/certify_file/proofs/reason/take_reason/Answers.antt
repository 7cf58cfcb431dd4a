use Rattle.std.proofs.Common.{◌≢◌, get_or, arith}
use Rattle.std.proofs.lemmas.Result.{err_from_is_err_and}
use Rattle.line_text.proofs.Splits.{err_case, ok_case}
use Rattle.certify_file.proofs.LineLemmas.{return_case, no_reason_left}
use Rattle.certify_file.proofs.reason.take_reason.Goals as goal

pub returns-in-empty : goal.returns-in-empty
returns-in-empty c = no_reason_left c.args.cursor.now.rest.now (let less = c.in-empty.len_below in omega (arith, less))

pub returns-in_err-fact-in_default : goal.returns-in_err-fact-in_default
returns-in_err-fact-in_default c =
    let old = c.args.cursor.now.rest.now in
    let not_s : get_or old 0 0 ≢ 115 = omega arith in
    let not_e : get_or old 0 0 ≢ 101 = omega arith in
    let rest = c.take_labelled_pair.new.cursor.rest.now in
    let p = err_from_is_err_and c.from_residual.result c.from_residual.ensures.1 in
    rw (p.1, p.2) (err_case _ rest rest (return_case old (omega arith) not_s not_e) _ c.in_err-fact-in_default.ensures)

pub returns-in_ok-fact-in_default : goal.returns-in_ok-fact-in_default
returns-in_ok-fact-in_default c =
    let old = c.args.cursor.now.rest.now in
    let not_s : get_or old 0 0 ≢ 115 = omega arith in
    let not_e : get_or old 0 0 ≢ 101 = omega arith in
    ok_case _ _ (return_case old (omega arith) not_s not_e) (c.in_ok-fact-in_default.fact, c.in_ok-fact-in_default.back) c.in_ok-fact-in_default.ensures
