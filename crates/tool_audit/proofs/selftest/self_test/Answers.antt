use Rattle.std.proofs.Common.{◌-◌, length, ap, arith}
use Rattle.c_meaning.specs.Runs.{Run}
use Rattle.c_tree.specs.View.{program_of}
use Rattle.generated_program.specs.Generator.{generated_source}
use Rattle.tool_audit.proofs.TellsLemmas.{ends_done, tells}
use Rattle.tool_audit.proofs.selftest.self_test.Goals as goal

pub source_of-requires : goal.source_of-requires
source_of-requires c = omega (arith, c.requires.0, c.requires.1)

pub audit_of-requires-clause-source : goal.audit_of-requires-clause-source
audit_of-requires-clause-source c = (generated_source c.args.number (c.args.size - 1), c.in_ok-source.ensures.read)

pub audit_of-requires-clause-program : goal.audit_of-requires-clause-program
audit_of-requires-clause-program c = (c.args.number, c.in_ok-source.ensures.program)

pub audit_of-requires-clause-last : goal.audit_of-requires-clause-last
audit_of-requires-clause-last c = omega (arith, c.requires.0, c.requires.1)

pub returns-clause-status : goal.returns-clause-status
returns-clause-status c =
    let found = c.in_ok-audited.audited in
    ends_done c.generated_texts_are_accepted.ensures c.texts_raise_no_alarm.ensures c.generated_calls_descend.ensures.few c.args.number (c.args.size - 1) 1000000 (omega (arith, c.requires.0, c.requires.1))
    (program_of c.in_ok-source.source.program) found.verdicts.status found.verdicts.text.items c.in_ok-source.ensures.program c.in_ok-audited.ensures.verdicts

pub returns-clause-tells : goal.returns-clause-tells
returns-clause-tells c =
    let found = c.in_ok-audited.audited in
    tells c.generated_texts_are_accepted.ensures c.texts_raise_no_alarm.ensures c.generated_calls_descend.ensures.few c.args.number c.args.size (omega (arith, c.requires.0, c.requires.1))
    (program_of c.in_ok-source.source.program) found.nodes (length found.run.trace.items) found.verdicts.status found.verdicts.text.items c.deref.result.now c.in_ok-text.text.items c.push_bytes.new.text.items
    c.in_ok-source.ensures.program c.in_ok-audited.ensures.verdicts c.in_ok-audited.ensures.nodes (ap (λ (r : Run). length r.trace) c.in_ok-audited.ensures.run) c.in_ok-text.ensures c.deref.ensures.value c.in_ok-push_bytes.ensures
