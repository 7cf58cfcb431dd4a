use Rattle.std.proofs.Common.{◌≡◌, ◌≢◌, get_or, arith}
use Rattle.certify_file.proofs.LineLemmas.{link_case, at_case, no_stack_line_left}
use Rattle.certify_file.proofs.Parts.{read_case}
use Rattle.certify_file.proofs.fact_line.take_stack_line.Goals as goal

pub returns-in-empty : goal.returns-in-empty
returns-in-empty c = no_stack_line_left c.args.cursor.now.rest.now (let less = c.in-empty.len_below in omega (arith, less))

pub returns-in-108 : goal.returns-in-108
returns-in-108 c =
    let old = c.args.cursor.now.rest.now in
    let first : get_or old 0 0 ≡ 108 = omega arith in
    read_case _ _ _ (link_case old (omega arith) first) _ c.take_link_line.ensures

pub returns-in_default : goal.returns-in_default
returns-in_default c =
    let old = c.args.cursor.now.rest.now in
    let first : get_or old 0 0 ≢ 108 = omega arith in
    read_case _ _ _ (at_case old (omega arith) first) _ c.take_at_line.ensures
