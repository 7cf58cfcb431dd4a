use Rattle.std.proofs.Common.{◌≡◌, ◌≢◌, get_or, arith}
use Rattle.std.proofs.lemmas.Result.{err_from_is_err_and}
use Rattle.line_text.proofs.Splits.{err_case, ok_case}
use Rattle.certify_file.proofs.LineLemmas.{accepted_case, rejected_case, no_verdict_left}
use Rattle.certify_file.proofs.head.take_verdict_line.Goals as goal

pub returns-in-empty : goal.returns-in-empty
returns-in-empty c = no_verdict_left c.args.cursor.now.rest.now (let less = c.in-empty.len_below in omega (arith, less))

pub returns-in_err-events-in-97 : goal.returns-in_err-events-in-97
returns-in_err-events-in-97 c =
    let old = c.args.cursor.now.rest.now in
    let first : get_or old 0 0 ≡ 97 = omega arith in
    let rest = c.take_labelled.new.cursor.rest.now in
    let p = err_from_is_err_and c.from_residual.result c.from_residual.ensures.1 in
    rw (p.1, p.2) (err_case _ rest rest (accepted_case old (omega arith) first) _ c.in_err-events-in-97.ensures)

pub returns-in_err-at-in_default : goal.returns-in_err-at-in_default
returns-in_err-at-in_default c =
    let old = c.args.cursor.now.rest.now in
    let first : get_or old 0 0 ≢ 97 = omega arith in
    let rest = c.take_labelled-in_default.new.cursor.rest.now in
    let from = c.from_residual-in_err-at-in_default in
    let p = err_from_is_err_and from.result from.ensures.1 in
    rw (p.1, p.2) (err_case _ rest rest (rejected_case old (omega arith) first) _ c.in_err-at-in_default.ensures)

pub returns-in_ok-events-in-97 : goal.returns-in_ok-events-in-97
returns-in_ok-events-in-97 c =
    let old = c.args.cursor.now.rest.now in
    let first : get_or old 0 0 ≡ 97 = omega arith in
    rw c.from.ensures (ok_case _ _ (accepted_case old (omega arith) first) _ c.in_ok-events-in-97.ensures)

pub returns-in_ok-at-in_default : goal.returns-in_ok-at-in_default
returns-in_ok-at-in_default c =
    let old = c.args.cursor.now.rest.now in
    let first : get_or old 0 0 ≢ 97 = omega arith in
    rw c.from-in_default.ensures (ok_case _ _ (rejected_case old (omega arith) first) _ c.in_ok-at-in_default.ensures)
