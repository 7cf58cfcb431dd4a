use Rattle.std.proofs.Common.{take}
use Rattle.certify_making.specs.Adding.{Added, IsKept}
use Rattle.certify_making.proofs.facts.Facts.add_each.Given as goal

abbrev pub invariant-loop-line : goal.invariant-loop-line
invariant-loop-line l = IsKept l.self × Added l.fn.self.lines.items (take l.line-index l.found) l.self.lines.items
