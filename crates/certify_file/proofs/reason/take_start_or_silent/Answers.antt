use Rattle.std.proofs.Common.{◌≡◌, ◌≢◌, get_or, arith}
use Rattle.std.proofs.lemmas.Result.{err_from_is_err_and}
use Rattle.line_text.proofs.Splits.{err_case, ok_case}
use Rattle.certify_file.proofs.LineLemmas.{start_case, silent_case, cut_after_s, length_of_one}
use Rattle.certify_file.proofs.reason.take_start_or_silent.Goals as goal

pub returns-in_default : goal.returns-in_default
returns-in_default c =
    let old = c.args.cursor.now.rest.now in
    cut_after_s old (length_of_one old 115 c.requires (omega arith) (let less = c.in_default.len_below in omega (arith, less))) c.requires

pub returns-in_err-take-in-116 : goal.returns-in_err-take-in-116
returns-in_err-take-in-116 c =
    let old = c.args.cursor.now.rest.now in
    let second : get_or old 1 0 ≡ 116 = omega arith in
    let rest = c.take.new.self.rest.now in
    let p = err_from_is_err_and c.from_residual.result c.from_residual.ensures.1 in
    rw (p.1, p.2) (err_case _ rest rest (start_case old (omega arith) c.requires second) _ c.in_err-take-in-116.ensures.reads)

pub returns-in_err-fact-in-len2-up : goal.returns-in_err-fact-in-len2-up
returns-in_err-fact-in-len2-up c =
    let old = c.args.cursor.now.rest.now in
    let second : get_or old 1 0 ≢ 116 = omega arith in
    let rest = c.take_labelled.new.cursor.rest.now in
    let from = c.from_residual-in_err-fact-in-len2-up in
    let p = err_from_is_err_and from.result from.ensures.1 in
    rw (p.1, p.2) (err_case _ rest rest (silent_case old (omega arith) c.requires second) _ c.in_err-fact-in-len2-up.ensures)

pub returns-in_ok-take-in-116 : goal.returns-in_ok-take-in-116
returns-in_ok-take-in-116 c =
    let old = c.args.cursor.now.rest.now in
    let second : get_or old 1 0 ≡ 116 = omega arith in
    ok_case _ _ (start_case old (omega arith) c.requires second) tt c.in_ok-take-in-116.ensures.reads

pub returns-in_ok-fact-in-len2-up : goal.returns-in_ok-fact-in-len2-up
returns-in_ok-fact-in-len2-up c =
    let old = c.args.cursor.now.rest.now in
    let second : get_or old 1 0 ≢ 116 = omega arith in
    ok_case _ _ (silent_case old (omega arith) c.requires second) _ c.in_ok-fact-in-len2-up.ensures
