use Rattle.std.proofs.lemmas.Result.{on_ok_weaker}
use Rattle.callgraph_monitor.proofs.Edges.{quiet_of, of_quiet}
use Rattle.callgraph_monitor.proofs.Pushed.{pushes-then, pushes-like}
use Rattle.callgraph_monitor.proofs.quiet.push_quiet.Goals as goal

pub returns-clause-added : goal.returns-clause-added
returns-clause-added c =
    let old = c.args.ends.now.items in
    let first = c.push_silent.new.ends.items in
    let second = c.push_calls.new.ends.items in
    let new = c.push_returns.new.ends.items in
    on_ok_weaker c.push_returns.result
    (λ added. pushes-like old new (pushes-then old second new (pushes-then old first second c.in_ok-push_silent.ensures.added c.in_ok-push_calls.ensures.added) added) (quiet_of c.args.model.now c.args.node) (of_quiet c.args.model.now c.args.node))
    c.push_returns.ensures.added
