use Rattle.std.proofs.Common.{◌≡◌, map, take}
use Rattle.c_tree.specs.View.{ctypes_of}
use Rattle.c_tree.specs.Prototypes.{type_meant}
use Rattle.flow_graph.proofs.sys_types.types_taken.Given as goal

abbrev pub invariant-loop-t : goal.invariant-loop-t
invariant-loop-t l = ctypes_of l.made.items ≡ map type_meant (take l.t-index l.ts)
