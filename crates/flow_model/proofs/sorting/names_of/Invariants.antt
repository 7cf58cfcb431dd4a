use Rattle.std.proofs.Common.{◌≡◌, map, take}
use Rattle.flow_model.proofs.sorting.names_of.Given as goal

abbrev pub invariant-loop-one : goal.invariant-loop-one
invariant-loop-one l = map (λ name. name.now) l.names.items ≡ map (λ one. one.name) (take l.one-index l.functions)
