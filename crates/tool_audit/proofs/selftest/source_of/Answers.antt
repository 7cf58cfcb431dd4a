use Rattle.c_tree.specs.View.{program_of}
use Rattle.dm_base.specs.declared.mode.Mode.TheVariants.{Plain}
use Rattle.generated_program.specs.Generator.{generated_source}
use Rattle.generated_program.specs.Typed.{generated_program}
use Rattle.tool_audit.proofs.SourceLemmas.{source_accepted}
use Rattle.tool_audit.proofs.TellsLemmas.{read_so, never_refused}
use Rattle.tool_audit.proofs.selftest.source_of.Goals as goal

pub returns-in-Ok-clause-read : goal.returns-in-Ok-clause-read
returns-in-Ok-clause-read c =
    read_so (generated_source c.args.number c.args.last) c.in_ok-text.text.items c.deref.result.now c.in-Ok.source c.in_ok-text.ensures c.deref.ensures.value c.in-Ok.ensures.read

pub returns-in-Ok-clause-program : goal.returns-in-Ok-clause-program
returns-in-Ok-clause-program c =
    let text = generated_source c.args.number c.args.last in
    let is = read_so text c.in_ok-text.text.items c.deref.result.now c.in-Ok.source c.in_ok-text.ensures c.deref.ensures.value c.in-Ok.ensures.read in
    c.a_text_is_accepted_as_one_program.ensures text Plain (program_of c.in-Ok.source.program) (generated_program c.args.number c.args.last)
    (source_accepted text Plain c.in-Ok.source is) (c.generated_texts_are_accepted.ensures c.args.number c.args.last c.requires)

pub refused_memory-requires : goal.refused_memory-requires
refused_memory-requires c = λ other.
    never_refused c.generated_texts_are_accepted.ensures c.args.number c.args.last c.requires c.in_ok-text.text.items c.deref.result.now c.in-Err.error c.in_ok-text.ensures c.deref.ensures.value c.in-Err.ensures.none other
