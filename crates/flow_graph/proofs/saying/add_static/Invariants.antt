use Rattle.std.proofs.Common.{◌≡◌, ◌++◌, take}
use Rattle.std.specs.Prelude.{flat_map}
use Rattle.c_meaning.specs.Mentions.{mention_of_cell}
use Rattle.flow_graph.specs.Saying.{said}
use Rattle.flow_graph.proofs.saying.add_static.Given as goal

abbrev pub invariant-loop-cell : goal.invariant-loop-cell
invariant-loop-cell l = said l.into.items ≡ said l.fn.into.items ++ flat_map mention_of_cell (take l.cell-index l.cell-items)
