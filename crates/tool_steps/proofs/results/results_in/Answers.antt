use Rattle.std.proofs.Common.{ℕ, List, subst}
use Rattle.dm_io.specs.Store.{IsMissing}
use Rattle.sys_table.specs.ResultsText.{AreResultsWithin, IsResultsRefusal}
use Rattle.tool_steps.proofs.ResultsFiles.{results_of_file, stops_results}
use Rattle.tool_steps.proofs.results.results_in.Goals as goal

pub returns-in-Ok-clause-read : goal.returns-in-Ok-clause-read
returns-in-Ok-clause-read g c =
    results_of_file (g.S.Store.files c.args.store.now) c.args.name.now c.in_ok-text.text.items c.in-Ok.records.items c.in_ok-text.ensures.whole
    (subst (λ (w : List ℕ). AreResultsWithin w c.in-Ok.records.items) c.deref.ensures.value c.in-Ok.ensures.read)

pub returns-clause-stop : goal.returns-clause-stop
returns-clause-stop g c =
    let told = g.S.Store.files c.args.store.now in
    stops_results told c.args.name.now c.in_ok-text.text.items c.in-Err.error c.refused_with.result (IsMissing told c.args.name.now) _ _ c.in_ok-text.ensures.whole
    (subst (IsResultsRefusal c.in-Err.error) c.deref.ensures.value c.in-Err.ensures.refused) c.refused_with.ensures
