use Rattle.std.proofs.Common.{◌<◌, length, get_or, Contains, ap, subst, arith}
use Rattle.std.proofs.lemmas.List.{length_push}
use Rattle.std.proofs.lemmas.List.Elements.{Contains-get_or}
use Rattle.callgraph_monitor.specs.Ahead.{BeginsAt}
use Rattle.flow_model.specs.Growth.{Pushes, HasOne}
use Rattle.flow_model.proofs.EdgeBounds.{candidate_below}
use Rattle.callgraph_monitor.proofs.Edges.{begins_at, begins_only, function_at}
use Rattle.callgraph_monitor.proofs.Pushed.{pushes-start, pushes-more, pushes-end, pushes-like, pushes-one}
use Rattle.callgraph_monitor.proofs.quiet.push_entries.Goals as goal
use Rattle.callgraph_monitor.proofs.quiet.push_entries.Goals.{After-index-functions-function}

-- the candidate is a function
known : (c : After-index-functions-function) → get_or c.candidates-function-items.result.now c.loop-function.function-index 0 < length c.args.model.now.functions
known c =
    let f = get_or c.candidates-function-items.result.now c.loop-function.function-index 0 in
    let here = Contains-get_or c.candidates-function-items.result.now c.loop-function.function-index 0 c.loop-function-test.true in
    candidate_below c.args.model.now c.nodes-nodes.ensures.valid c.args.call.now f c.requires (subst (λ xs. Contains xs f) c.candidates-function-items.ensures here)

pub loop-function-init : goal.loop-function-init
loop-function-init c = record {
  added = pushes-start (BeginsAt c.args.model.now) c.candidates-function-items.result.now c.args.ends.now.items;
  few = omega arith;
}

pub loop-function-preserved : goal.loop-function-preserved
loop-function-preserved c =
    let model = c.args.model.now in
    let f = get_or c.candidates-function-items.result.now c.loop-function.function-index 0 in
    let one = get_or c.functions-functions.result.now f c.index-functions-function.result in
    let has = function_at model c.functions-functions.result.now f c.index-functions-function.result c.functions-functions.ensures (known (goal.at.loop-function-preserved c).After-index-functions-function) in
    let ends = c.loop-function.ends.items in
    let new = c.push.new.self.items in
    record {
      added = pushes-more (BeginsAt model) c.candidates-function-items.result.now c.args.ends.now.items ends new c.loop-function.function-index 0 c.loop-function-test.true c.loop-function.invariant.added
          (pushes-like ends new (pushes-one ends new one.entry c.in_ok-push.ensures.items) (begins_at model f one has) (begins_only model f one has));
      few = omega (arith, c.loop-function.invariant.few, ap length c.in_ok-push.ensures.items, length_push ends one.entry);
    }

pub returns-clause-added : goal.returns-clause-added
returns-clause-added c =
    let old = c.args.ends.now.items in
    let new = c.loop-function.ends.items in
    let all = pushes-end (BeginsAt c.args.model.now) c.candidates-function-items.result.now old new c.loop-function.function-index (omega (arith, c.loop-function-test.false)) c.loop-function.invariant.added in
    subst (λ xs. Pushes old new (HasOne (BeginsAt c.args.model.now) xs)) c.candidates-function-items.ensures all

pub returns-clause-few : goal.returns-clause-few
returns-clause-few c = omega (arith, c.loop-function.invariant.few, c.loop-function-test.false, c.loop-function.auto.function-index-end, ap length c.candidates-function-items.ensures)
