use Rattle.std.proofs.Common.{◌≡◌, map, take}
use Rattle.flow_model.proofs.groups.sites_by_node.Given as goal

abbrev pub invariant-loop-call : goal.invariant-loop-call
invariant-loop-call l = l.members.items ≡ map (λ c. record { group = c.from; site = c.site }) (take l.call-index l.calls)
