use Rattle.std.proofs.Common.{ℕ, Vec, Global}
use Rattle.std.proofs.lemmas.Result.{IfOk-weaker}
use Rattle.flow_model.specs.Order.{sys_order}
use Rattle.flow_model.proofs.GroupsLemmas.{AreGrouped-from_starts, IsNonDecreasingBy-from_rise, le_from_first}
use Rattle.flow_model.proofs.groups.sys_starts.Goals as goal

pub starts_of-requires : goal.starts_of-requires
starts_of-requires c =
    IsNonDecreasingBy-from_rise sys_order (λ e. e.from) (λ d e less. le_from_first d.from e.from _ less) c.args.edges.now c.requires

pub returns : goal.returns
returns c = IfOk-weaker _ _ _ (λ (starts : Vec ℕ Global) are. AreGrouped-from_starts (λ e. e.from) c.args.edges.now c.args.nodes starts.items are) c.starts_of.ensures
