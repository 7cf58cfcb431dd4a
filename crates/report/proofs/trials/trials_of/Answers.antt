use Rattle.std.proofs.Common.{◌≡◌, ◌<◌, ◌≤◌, List, length, get_or, sym, subst}
use Rattle.flow_model.specs.declared.records.SysEdge.{SysEdge}
use Rattle.report.proofs.TrialLemmas.{trials_more, all_trials}
use Rattle.report.proofs.trials.trials_of.Goals as goal

pub loop-edge-preserved : goal.loop-edge-preserved
loop-edge-preserved c =
    let i = c.loop-edge.edge-index in
    let item = c.edge-item.result in
    let edges = c.edges_of-edge-items.ensures.edges in
    record {
      recorded = c.in_ok-add_trial.ensures.recorded c.loop-edge.invariant.recorded;
      complete = trials_more c.args.model.now.sys c.loop-edge.trials.items c.add_trial.new.trials.items i item (sym (subst (λ (xs : List SysEdge). item ≡ get_or xs i item) edges c.edge-item.is)) (subst (λ (xs : List SysEdge). i < length xs) edges c.loop-edge-test.true) c.in_ok-add_trial.ensures.kept c.in_ok-add_trial.ensures.has c.loop-edge.invariant.complete;
    }

pub returns : goal.returns
returns c =
    all_trials c.args.model.now c.loop-edge.trials.items c.loop-edge.edge-index (subst (λ (xs : List SysEdge). length xs ≤ c.loop-edge.edge-index) c.edges_of-edge-items.ensures.edges c.loop-edge-test.false) c.loop-edge.invariant.recorded c.loop-edge.invariant.complete
