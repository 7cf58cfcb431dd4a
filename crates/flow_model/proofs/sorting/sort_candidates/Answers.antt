use Rattle.std.proofs.Common.{arith}
use Rattle.flow_model.proofs.CandidatesLemmas.{SortedSoFar-none, SortedSoFar-more, AreSorted-from_all}
use Rattle.flow_model.proofs.sorting.sort_candidates.Goals as goal

pub loop-call-init : goal.loop-call-init
loop-call-init c = SortedSoFar-none c.args.calls.now

pub loop-call-preserved : goal.loop-call-preserved
loop-call-preserved c =
    let sorted = c.sort_candidates-apart.ensures in
    SortedSoFar-more c.args.calls.now c.loop-call.calls c.loop-call.call-index c.loop-call.apart _ c.call-item.result _ (omega arith) c.loop-call.auto.calls c.loop-call.invariant sorted.same sorted.differ sorted.rise

pub returns : goal.returns
returns c =
    let all = AreSorted-from_all c.args.calls.now c.loop-call.calls c.loop-call.call-index c.loop-call.apart c.loop-call.auto.calls c.loop-call-test.false c.loop-call.invariant in
    record { same = all.same; differ = all.differ; rise = all.rise }
