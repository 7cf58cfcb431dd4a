use Rattle.std.proofs.Common.{◌≡◌, ◌≢◌, get_or, arith}
use Rattle.std.proofs.lemmas.Result.{err_from_is_err_and}
use Rattle.line_text.proofs.Splits.{err_case}
use Rattle.certify_file.proofs.LineLemmas.{callgraph_case, stack_case, no_judge_left}
use Rattle.certify_file.proofs.head.take_judge.Goals as goal

pub returns-in-empty : goal.returns-in-empty
returns-in-empty c = no_judge_left c.args.cursor.now.rest.now (let less = c.in-empty.len_below in omega (arith, less))

pub returns-in_err-take-in-99 : goal.returns-in_err-take-in-99
returns-in_err-take-in-99 c =
    let old = c.args.cursor.now.rest.now in
    let first : get_or old 0 0 ≡ 99 = omega arith in
    let rest = c.take.new.self.rest.now in
    let p = err_from_is_err_and c.from_residual.result c.from_residual.ensures.1 in
    rw (p.1, p.2) (err_case _ rest rest (callgraph_case old (omega arith) first) _ c.in_err-take-in-99.ensures.reads)

pub returns-in_err-take-in_default : goal.returns-in_err-take-in_default
returns-in_err-take-in_default c =
    let old = c.args.cursor.now.rest.now in
    let first : get_or old 0 0 ≢ 99 = omega arith in
    let rest = c.take-in_default.new.self.rest.now in
    let p = err_from_is_err_and c.from_residual-in_err-take-in_default.result c.from_residual-in_err-take-in_default.ensures.1 in
    rw (p.1, p.2) (err_case _ rest rest (stack_case old (omega arith) first) _ c.in_err-take-in_default.ensures.reads)
