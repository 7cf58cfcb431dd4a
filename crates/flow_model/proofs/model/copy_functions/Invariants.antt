use Rattle.std.proofs.Common.{◌≡◌, take}
use Rattle.flow_model.proofs.model.copy_functions.Given as goal

abbrev pub invariant-loop-one : goal.invariant-loop-one
invariant-loop-one l = l.copied.items ≡ take l.one-index l.functions
