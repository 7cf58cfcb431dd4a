use Rattle.std.proofs.Common.{◌≡◌, take}
use Rattle.std.specs.List.{flat_map}
use Rattle.flow_model.specs.Starts.{members_of}
use Rattle.flow_model.proofs.groups.sites_by_function.Given as goal

abbrev pub invariant-loop-call : goal.invariant-loop-call
invariant-loop-call l = l.members.items ≡ flat_map members_of (take l.call-index l.calls)
