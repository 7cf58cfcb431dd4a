use Rattle.flow_model.proofs.CandidatesLemmas.{SortedSoFar}
use Rattle.flow_model.proofs.sorting.sort_candidates.Given as goal

abbrev pub invariant-loop-call : goal.invariant-loop-call
invariant-loop-call l = SortedSoFar l.fn.calls l.calls l.call-index l.apart
