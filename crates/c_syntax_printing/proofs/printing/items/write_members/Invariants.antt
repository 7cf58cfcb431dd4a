use Rattle.std.proofs.Common.{drop}
use Rattle.c_syntax.specs.UnitView.{members_of}
use Rattle.c_syntax.specs.Print.{members_kinds}
use Rattle.c_syntax.specs.Writes.{Leaves}
use Rattle.c_syntax_printing.proofs.printing.items.write_members.Given as goal

abbrev pub invariant-loop-member : goal.invariant-loop-member
invariant-loop-member l =
    Leaves l.fn.out.items (members_kinds (members_of l.members)) l.out.items (members_kinds (members_of (drop l.member-index l.members)))
