use Rattle.std.proofs.lemmas.Result.{err_from_is_err_and}
use Rattle.null_calls_laws.specs.MarkedRuns.{marked_run}
use Rattle.c_tree.specs.View.{program_of}
use Rattle.c_meaning.specs.GraphOfProgram.{graph_of_program}
use Rattle.tool_steps.proofs.RecordedRuns.{read_so}
use Rattle.tool_audit.proofs.StopLemmas.{audits, stops_at_results, stops_at_graph}
use Rattle.tool_audit.proofs.Verdicts.{audit_ends}
use Rattle.tool_audit.proofs.audit.audit_source.Goals as goal

pub returns-in_err-records-clause-stop : goal.returns-in_err-records-clause-stop
returns-in_err-records-clause-stop g c =
    let told = g.S.Store.files c.args.store.now in
    let stop = c.in_err-records.field-0.0 in
    let w = err_from_is_err_and c.from_residual-in_err-records.result c.from_residual-in_err-records.ensures.1 in
    rw (w.1, w.2) (stops_at_results told _ c.args.name.now c.args.results.now c.in_ok-source.source stop _ _ _ c.in_ok-source.ensures.same c.in_ok-source.ensures.read c.in_ok-source.ensures.never_falls c.in_err-records.ensures.stop)

pub returns-in-Ok-clause-made : goal.returns-in-Ok-clause-made
returns-in-Ok-clause-made g c =
    let told = g.S.Store.files c.args.store.now in
    let read = read_so told _ c.args.results.now c.in_ok-records.records.items c.deref.result.now c.in_ok-source.ensures.same c.deref.ensures.value c.in_ok-records.ensures.read in
    audits told c.args.name.now c.args.results.now c.args.turns c.args.bound c.in-Ok.finished.status c.in-Ok.finished.text.items c.in_ok-source.source c.deref.result.now c.in_ok-source.ensures.read read c.in-Ok.ensures.few c.in-Ok.ensures.made

pub returns-in-Ok-clause-ended : goal.returns-in-Ok-clause-ended
returns-in-Ok-clause-ended g c =
    audit_ends (graph_of_program (program_of c.in_ok-source.source.program)) c.args.bound (marked_run (program_of c.in_ok-source.source.program) c.deref.result.now c.args.turns) c.in-Ok.finished.status c.in-Ok.finished.text.items c.in-Ok.ensures.made

pub returns-clause-stop : goal.returns-clause-stop
returns-clause-stop g c =
    let told = g.S.Store.files c.args.store.now in
    let read = read_so told _ c.args.results.now c.in_ok-records.records.items c.deref.result.now c.in_ok-source.ensures.same c.deref.ensures.value c.in_ok-records.ensures.read in
    stops_at_graph told c.args.name.now c.args.results.now c.in_ok-source.source c.deref.result.now c.in-Err.stop _ _ c.in_ok-source.ensures.read read c.in-Err.ensures.stop
