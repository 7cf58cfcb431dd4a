use Rattle.std.proofs.Common.{◌≡◌, map, take}
use Rattle.c_tree.specs.View.{ctypes_of}
use Rattle.c_tree.specs.Prototypes.{prototype_type}
use Rattle.flow_graph.proofs.sys_types.types_by.Given as goal

abbrev pub invariant-loop-p : goal.invariant-loop-p
invariant-loop-p l = ctypes_of l.made.items ≡ map prototype_type (take l.p-index l.ps)
