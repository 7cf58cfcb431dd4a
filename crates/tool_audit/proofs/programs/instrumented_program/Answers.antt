use Rattle.c_syntax.specs.UnitView.{items_of}
use Rattle.c_tree.specs.View.{program_of}
use Rattle.tool_audit.proofs.ProgramLemmas.{is_lexical, never_refused, runs_marked}
use Rattle.tool_audit.proofs.programs.instrumented_program.Goals as goal

pub check-requires : goal.check-requires
check-requires c =
    record { lexical = is_lexical c.a_spelled_unit_is_lexical.ensures c.instrumented_units_are_lexical.ensures c.requires.0 c.args.source.now (items_of c.in_ok-items.items.items) c.requires.1 c.in_ok-items.ensures }

pub memory_of-requires : goal.memory_of-requires
memory_of-requires c = λ code place e.
    never_refused c.instrumented_texts_run_marked.ensures c.requires.0 c.args.source.now (items_of c.in_ok-items.items.items) c.requires.1 c.in_ok-items.ensures c.in-Err.error code place e c.in-Err.ensures.refused

pub returns-in-Ok : goal.returns-in-Ok
returns-in-Ok c =
    runs_marked c.instrumented_texts_run_marked.ensures c.requires.0 c.args.source.now (items_of c.in_ok-items.items.items) (program_of c.in-Ok.program) c.requires.1 c.in_ok-items.ensures c.in-Ok.ensures.typed
