use Rattle.std.proofs.Common.{◌≡◌, ◌+◌, ◌*◌, ◌++◌, map, take}
use Rattle.c_check_initialisers.specs.CellView.{typed_expressions_of}
use Rattle.c_check_initialisers.proofs.ZeroLemmas.{rank, ranks}
use Rattle.c_check_values.specs.Shown.{members_types}
use Rattle.c_rules.specs.Initialisers.{typed_zero}
use Rattle.c_rules.specs.Scopes.{layout_of}
use Rattle.c_check_values.specs.View.{env_of}
use Rattle.c_tree.specs.Layout.{flat_with, flat_all_with, layout, repeat}
use Rattle.c_tree.specs.Tree.{struct}
use Rattle.c_tree.specs.View.{ctype_of}
use Rattle.c_check_initialisers.proofs.zeros.+zeros.Given as goal

abbrev pub decreases-add_zeros : goal.decreases-add_zeros
decreases-add_zeros l = 3 * rank (layout_of (env_of l.env.now)) l.depth (ctype_of l.t.now) + 1

abbrev pub decreases-add_copies : goal.decreases-add_copies
decreases-add_copies l = 3 * rank (layout_of (env_of l.env.now)) l.depth (ctype_of l.element.now) + 2

abbrev pub decreases-add_struct : goal.decreases-add_struct
decreases-add_struct l = 3 * rank (layout_of (env_of l.env.now)) l.depth (struct l.s)

abbrev pub decreases-add_members : goal.decreases-add_members
decreases-add_members l = 3 * ranks (layout_of (env_of l.env.now)) l.depth (members_types l.members.now) + 2

abbrev pub invariant-add_copies-loop : goal.invariant-add_copies-loop
invariant-add_copies-loop l =
    typed_expressions_of l.cells.items ≡ typed_expressions_of l.fn.cells.items ++ map typed_zero (repeat l.counter (flat_with (layout (layout_of (env_of l.env)) l.depth) (ctype_of l.element)))

abbrev pub invariant-add_members-loop-member : goal.invariant-add_members-loop-member
invariant-add_members-loop-member l =
    typed_expressions_of l.cells.items ≡ typed_expressions_of l.fn.cells.items ++ map typed_zero (flat_all_with (layout (layout_of (env_of l.env)) l.depth) (members_types (take l.member-index l.members)))
