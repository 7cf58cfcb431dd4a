use Rattle.std.proofs.Common.{◌≡◌, take}
use Rattle.c_check_values.specs.Shown.{members_types}
use Rattle.c_tree.specs.View.{ctypes_of}
use Rattle.c_check_units.proofs.structs.types_of_members.Given as goal

abbrev pub invariant-loop-member : goal.invariant-loop-member
invariant-loop-member l = ctypes_of l.types.items ≡ members_types (take l.member-index l.members)
