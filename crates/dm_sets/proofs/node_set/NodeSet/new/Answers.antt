use Rattle.std.proofs.Common.{ap}
use Rattle.dm_sets.proofs.Members.{no_members}
use Rattle.dm_sets.proofs.node_set.NodeSet.new.Goals as goal

pub returns : goal.returns
returns c = ap (λ s. record { size = c.args.n; members = s }) (no_members c.in_ok-zeros.field-0.items c.args.n c.in_ok-zeros.ensures.none)
