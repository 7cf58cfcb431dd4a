use Rattle.std.proofs.Common.{◌≡◌, ◌≢◌, get_or, arith}
use Rattle.std.proofs.lemmas.Result.{err_from_is_err_and}
use Rattle.line_text.proofs.Splits.{err_case}
use Rattle.certify_file.proofs.LineLemmas.{end_case, fact_case, no_line_left}
use Rattle.certify_file.proofs.line.take_certificate_line.Goals as goal

pub returns-in-empty : goal.returns-in-empty
returns-in-empty c = no_line_left c.args.judge c.args.cursor.now.rest.now (let less = c.in-empty.len_below in omega (arith, less))

pub returns-in_err-take-in-101 : goal.returns-in_err-take-in-101
returns-in_err-take-in-101 c =
    let old = c.args.cursor.now.rest.now in
    let first : get_or old 0 0 ≡ 101 = omega arith in
    let rest = c.take.new.self.rest.now in
    let p = err_from_is_err_and c.from_residual.result c.from_residual.ensures.1 in
    rw (p.1, p.2) (err_case _ rest rest (end_case c.args.judge old (omega arith) first) _ c.in_err-take-in-101.ensures.reads)

pub returns-in_err-take_fact_line-in_default : goal.returns-in_err-take_fact_line-in_default
returns-in_err-take_fact_line-in_default c =
    let old = c.args.cursor.now.rest.now in
    let first : get_or old 0 0 ≢ 101 = omega arith in
    let rest = c.take_fact_line.new.cursor.rest.now in
    let from = c.from_residual-in_err-take_fact_line-in_default in
    let p = err_from_is_err_and from.result from.ensures.1 in
    rw (p.1, p.2) (err_case _ rest rest (fact_case c.args.judge old (omega arith) first) _ c.in_err-take_fact_line-in_default.ensures)
