use Rattle.c_tree.specs.View.{program_of}
use Rattle.tool_audit.proofs.ProgramLemmas.{audit_found, events_recorded, end_counted}
use Rattle.tool_audit.proofs.audit.audit_text.Goals as goal

pub write_trace-requires-clause-events : goal.write_trace-requires-clause-events
write_trace-requires-clause-events c =
    events_recorded c.values_have_kinds.ensures.runs (program_of c.args.source.now.program) c.sites-sites.result c.sites-sites.ensures.typed c.args.records.now c.args.turns c.in-Ok.found.run c.deref.result.now c.in-Ok.ensures.run c.deref.ensures.value

pub write_trace-requires-clause-end : goal.write_trace-requires-clause-end
write_trace-requires-clause-end c =
    end_counted c.values_have_kinds.ensures.runs (program_of c.args.source.now.program) c.sites-sites.result c.sites-sites.ensures.typed c.args.records.now c.args.turns c.in-Ok.found.run c.in-Ok.ensures.run

pub returns-clause-made : goal.returns-clause-made
returns-clause-made c =
    let found = c.in-Ok.found in
    audit_found (program_of c.args.source.now.program) c.args.records.now c.args.turns c.args.bound found.run found.verdicts.status c.deref.result.now found.verdicts.text.items c.deref-2.result.now c.in_ok-trace.trace.items c.in_ok-text.text.items
    c.in-Ok.ensures.run c.in-Ok.ensures.verdicts c.deref.ensures.value c.in_ok-trace.ensures.text c.in_ok-trace.ensures.formed c.deref-2.ensures.value c.in_ok-text.ensures
