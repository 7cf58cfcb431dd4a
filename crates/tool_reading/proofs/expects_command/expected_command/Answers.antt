use Rattle.std.proofs.Common.{List, subst}
use Rattle.std.specs.Prelude.{All}
use Rattle.dm_base.specs.declared.event.Event.{Event}
use Rattle.sys_table.specs.Table.{IsRecorded}
use Rattle.tool_monitors.specs.Monitors.{monitors_of}
use Rattle.tool_reading.specs.Expected.{AreExpected}
use Rattle.tool_reading.proofs.ExpectsLemmas.{expects, stops_at_trace}
use Rattle.tool_reading.proofs.expects_command.expected_command.Goals as goal

pub returns-in-Err-clause-stop : goal.returns-in-Err-clause-stop
returns-in-Err-clause-stop g c =
    stops_at_trace (g.S.Store.files c.args.store.now) _ c.args.model.now c.args.trace.now c.in_ok-graph.graph c.in-Err.stop _ _ _ c.in_ok-graph.ensures.same c.in_ok-graph.ensures.never_falls c.in_ok-graph.ensures.model c.in-Err.ensures.stop

pub returns-clause-expected : goal.returns-clause-expected
returns-clause-expected g c =
    let done = c.in_ok-finished.finished in
    let monitors = monitors_of c.args.asked in
    expects (g.S.Store.files c.args.store.now) _ c.args.model.now c.args.trace.now done.text.items monitors c.args.bound done.status c.in_ok-graph.graph c.in-Ok.events.items c.in_ok-graph.ensures.same c.in_ok-graph.ensures.model c.in-Ok.ensures.events
    (subst (λ (t : List Event). All IsRecorded t → AreExpected monitors c.in_ok-graph.graph c.args.bound t done.status done.text.items) c.deref.ensures.value c.in_ok-finished.ensures.expected)
