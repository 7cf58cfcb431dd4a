use Rattle.std.proofs.Common.{refl}
use Rattle.c_tree.specs.Functions.{sys_types}
use Rattle.c_tree.proofs.prototypes.all_prototypes.Goals as goal

pub returns : goal.returns
unfolding sys_types
returns c = refl
