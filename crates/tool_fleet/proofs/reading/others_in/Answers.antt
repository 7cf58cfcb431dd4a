use Rattle.std.proofs.lemmas.Result.{err_from_is_err_and}
use Rattle.tool_fleet.proofs.ReadingLemmas.{results_read, stops_at_group, stops_at_results}
use Rattle.tool_fleet.proofs.reading.others_in.Goals as goal

pub returns-in_err-group-clause-stop : goal.returns-in_err-group-clause-stop
returns-in_err-group-clause-stop g c =
    let w = err_from_is_err_and c.from_residual.result c.from_residual.ensures.1 in
    rw (w.1, w.2) (stops_at_group (g.S.Store.files c.args.store.now) c.args.line.now c.in_err-group.field-0.0 _ _ c.in_err-group.ensures.stop)

pub returns-in_err-results-clause-stop : goal.returns-in_err-results-clause-stop
returns-in_err-results-clause-stop g c =
    let w = err_from_is_err_and c.from_residual-in_err-results.result c.from_residual-in_err-results.ensures.1 in
    rw (w.1, w.2)
    (stops_at_results (g.S.Store.files c.args.store.now) _ c.args.line.now c.args.groups.now.items _ c.in_ok-group.group c.name_of.result.now c.in_err-results.field-0.0 _ _ _ c.in_ok-group.ensures.same c.name_of.ensures c.in_ok-group.ensures.never_falls c.in_ok-group.ensures.found c.in_err-results.ensures.stop)

pub returns-clause-results : goal.returns-clause-results
returns-clause-results g c =
    results_read (g.S.Store.files c.args.store.now) _ c.args.line.now c.name_of.result.now c.in_ok-results.results.items c.in_ok-group.ensures.same c.name_of.ensures c.in_ok-results.ensures.read
