use Rattle.std.proofs.Common.{◌∙◌}
use Rattle.std.proofs.lemmas.Result.{IfOk-weaker}
use Rattle.flow_graph.proofs.sys_types.types_of_calls.Goals as goal

pub returns : goal.returns
returns c = IfOk-weaker c.types_by.result _ _ (λ made is. is ∙ c.system_prototypes.ensures) c.types_by.ensures
