use Rattle.std.proofs.Common.{◌≡◌, ◌++◌, map, take}
use Rattle.flow_model.proofs.groups.add_members.Given as goal

abbrev pub invariant-loop-function : goal.invariant-loop-function
invariant-loop-function l = l.members.items ≡ l.fn.members.items ++ map (λ f. record { group = f; site = l.call.site }) (take l.function-index l.function-items)
