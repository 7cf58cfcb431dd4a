use Rattle.std.proofs.Common.{◌∙◌}
use Rattle.c_tree.specs.View.{program_of}
use Rattle.tool_audit.proofs.ProgramLemmas.{reported_found}
use Rattle.tool_audit.proofs.audit.audit_program.Goals as goal

pub conclude-requires : goal.conclude-requires
conclude-requires c = (c.args.bound, c.in_ok-followed.followed.run.trace.items, c.in_ok-followed.ensures.heard)

pub report-requires : goal.report-requires
report-requires c =
    let trace = c.in_ok-followed.followed.run.trace.items in
    let heard = c.in_ok-followed.ensures.heard in
    (c.in-Ok.model, c.args.bound, trace, record { judged = c.in_ok-heard.ensures.judged c.args.bound trace heard; next = c.in_ok-heard.ensures.next c.args.bound trace heard })

pub returns-clause-run : goal.returns-clause-run
returns-clause-run c = c.in_ok-followed.ensures.run ∙ c.in_ok-program.ensures c.args.records.now c.args.turns

pub returns-clause-verdicts : goal.returns-clause-verdicts
returns-clause-verdicts c =
    let found = c.in_ok-followed.followed.run in
    let heard = c.in_ok-followed.ensures.heard in
    let said = c.in_ok-verdicts.ensures c.in-Ok.model c.args.bound found.trace.items (record { judged = c.in_ok-heard.ensures.judged c.args.bound found.trace.items heard; next = c.in_ok-heard.ensures.next c.args.bound found.trace.items heard }) in
    reported_found c.texts_raise_no_alarm.ensures c.requires.source.0 c.args.source.now (program_of c.in_ok-program.program) c.args.records.now c.args.turns c.args.bound found c.in-Ok.model c.in_ok-verdicts.verdicts.status
    c.in_ok-verdicts.verdicts.text.items c.requires.source.1 c.in-Ok.ensures.model c.in_ok-followed.ensures.run c.in_ok-program.ensures said
