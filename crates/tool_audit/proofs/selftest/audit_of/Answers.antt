use Rattle.std.proofs.Common.{◌∙◌}
use Rattle.c_tree.specs.View.{program_of}
use Rattle.generated_program.specs.Generator.{generated_results}
use Rattle.tool_audit.specs.WholeRuns.{run_of}
use Rattle.tool_audit.proofs.TellsLemmas.{ran_with, reported_with, never_stopped}
use Rattle.tool_audit.proofs.selftest.audit_of.Goals as goal

pub returns-in-Ok-clause-run : goal.returns-in-Ok-clause-run
returns-in-Ok-clause-run c =
    ran_with (program_of c.args.source.now.program) (generated_results c.args.last) c.deref.result.now 1000000 (run_of c.in-Ok.audited.run) (c.deref.ensures.value ∙ c.in_ok-records.ensures) c.in-Ok.ensures.run

pub returns-in-Ok-clause-verdicts : goal.returns-in-Ok-clause-verdicts
returns-in-Ok-clause-verdicts c =
    reported_with (program_of c.args.source.now.program) (generated_results c.args.last) c.deref.result.now 1000000 c.in-Ok.audited.verdicts.status c.in-Ok.audited.verdicts.text.items (c.deref.ensures.value ∙ c.in_ok-records.ensures) c.in-Ok.ensures.verdicts

pub stopped_memory-requires : goal.stopped_memory-requires
stopped_memory-requires c = λ other.
    never_stopped c.generated_programs_are_small.ensures c.requires.program.0 c.args.last (program_of c.args.source.now.program) c.in-Err.stop c.requires.last c.requires.program.1 c.in-Err.ensures.stop other
