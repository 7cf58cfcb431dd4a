use Rattle.std.proofs.Common.{refl}
use Rattle.std.proofs.lemmas.Result.{err_from_is_err_and}
use Rattle.tool_steps.proofs.RecordedRuns.{read_so}
use Rattle.tool_texts.proofs.RunLemmas.{runs, stops_at_results}
use Rattle.tool_texts.proofs.running.run_source.Goals as goal

pub returns-in_err-records-clause-stop : goal.returns-in_err-records-clause-stop
returns-in_err-records-clause-stop g c =
    let told = g.S.Store.files c.args.store.now in
    let results = c.args.results.now in
    let stop = c.in_err-records.field-0.0 in
    let w = err_from_is_err_and c.from_residual-in_err-records.result c.from_residual-in_err-records.ensures.1 in
    rw (w.1, w.2) (stops_at_results told _ c.args.name.now results c.in_ok-source.source stop _ _ _ c.in_ok-source.ensures.same c.in_ok-source.ensures.read c.in_ok-source.ensures.never_falls c.in_err-records.ensures.stop)

pub returns-clause-made : goal.returns-clause-made
returns-clause-made g c =
    let told = g.S.Store.files c.args.store.now in
    let results = c.args.results.now in
    let source = c.in_ok-source.source in
    let read = read_so told _ results c.in_ok-records.records.items c.deref.result.now c.in_ok-source.ensures.same c.deref.ensures.value c.in_ok-records.ensures.read in
    (refl, runs told c.args.name.now results c.args.turns c.in_ok-text.text.items source c.deref.result.now c.in_ok-source.ensures.read read c.in_ok-text.ensures.text c.in_ok-text.ensures.formed)
