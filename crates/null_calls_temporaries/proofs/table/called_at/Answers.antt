use Rattle.std.proofs.Common.{◌∙◌, ap, sym}
use Rattle.c_tree.specs.View.{program_of}
use Rattle.null_calls_temporaries.specs.Callees.{callee_of, callee_where}
use Rattle.null_calls_temporaries.specs.Sited.{called_where}
use Rattle.null_calls_temporaries.proofs.SiteLemmas.{unmarked_site, none_site, marked_site, defined_where}
use Rattle.null_calls_temporaries.proofs.table.called_at.Goals as goal

pub returns-then-not-marked : goal.returns-then-not-marked
returns-then-not-marked c same = let p = program_of c.args.program.now in unmarked_site p c.args.site c.marked.result (c.marked.ensures p c.requires) c.if-not-marked.true

pub returns-in-None : goal.returns-in-None
returns-in-None c same = none_site (program_of c.args.program.now) c.args.site (ap callee_where (sym c.in-None.is) ∙ same)

pub returns-in-Some : goal.returns-in-Some
returns-in-Some c same =
    let p = program_of c.args.program.now in
    let e = c.marked.ensures p c.requires in
    let at = ap callee_where (sym c.in-Some.is) ∙ same in
    marked_site p c.args.site c.marked.result (callee_of c.in-Some.designator) (called_where c.called_by.result) e c.if-not-marked.false at (c.called_by.ensures (defined_where p c.args.site c.marked.result (callee_of c.in-Some.designator) e c.if-not-marked.false at))
