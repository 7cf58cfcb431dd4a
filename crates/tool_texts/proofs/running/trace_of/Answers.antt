use Rattle.std.proofs.Common.{List, All, sym, subst}
use Rattle.dm_base.specs.declared.event.Event.{Event}
use Rattle.c_tree.specs.View.{program_of}
use Rattle.sys_table.specs.Table.{IsRecorded}
use Rattle.tool_steps.proofs.RecordedRuns.{events_recorded, end_counted}
use Rattle.tool_texts.proofs.running.trace_of.Goals as goal

pub write_trace-requires-clause-events : goal.write_trace-requires-clause-events
write_trace-requires-clause-events c =
    subst (λ (w : List Event). All IsRecorded w) (sym c.deref.ensures.value)
    (events_recorded c.values_have_kinds.ensures.runs (program_of c.args.program.now) c.sites-sites.result c.sites-sites.ensures.typed c.args.results.now c.args.turns c.in_ok-done.done c.in_ok-done.ensures.run)

pub write_trace-requires-clause-end : goal.write_trace-requires-clause-end
write_trace-requires-clause-end c =
    end_counted c.values_have_kinds.ensures.runs (program_of c.args.program.now) c.sites-sites.result c.sites-sites.ensures.typed c.args.results.now c.args.turns c.in_ok-done.done c.in_ok-done.ensures.run
