use Rattle.std.proofs.Common.{take, ◌≡◌}
use Rattle.flow_model.specs.declared.records.SilentEdge.{SilentEdge}
use Rattle.certify_facts.specs.declared.fact.Reason.TheVariants.{Silent}
use Rattle.certify_steps.specs.Stepping.{moved, line_of}
use Rattle.dm_base.specs.Adding.{Has}
use Rattle.certify_steps.specs.Adding.{Adds}
use Rattle.certify_steps.proofs.stepping.follow_each_silent.Given as goal

abbrev pub invariant-loop-edge : goal.invariant-loop-edge
invariant-loop-edge q = Adds q.fn.found.items q.found.items (λ l. Has (λ (e : SilentEdge). l ≡ line_of (moved q.fact e.to) (Silent q.number)) (take q.edge-index q.edges))
