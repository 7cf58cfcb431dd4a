use Rattle.std.proofs.Common.{take, ◌≡◌}
use Rattle.dm_base.specs.Fits.{Fits}
use Rattle.flow_model.specs.declared.records.SysEdge.{SysEdge}
use Rattle.certify_facts.specs.declared.fact.Reason.TheVariants.{Event}
use Rattle.certify_steps.specs.Stepping.{moved, line_of}
use Rattle.dm_base.specs.Adding.{Has}
use Rattle.certify_steps.specs.Adding.{Adds}
use Rattle.certify_steps.proofs.stepping.read_each.Given as goal

abbrev pub invariant-loop-edge : goal.invariant-loop-edge
invariant-loop-edge q = Adds q.fn.found.items q.found.items (λ l. Has (λ (s : SysEdge). Fits s.name s.args q.event × (l ≡ line_of (moved q.next s.to) (Event q.number))) (take q.edge-index q.edges))
