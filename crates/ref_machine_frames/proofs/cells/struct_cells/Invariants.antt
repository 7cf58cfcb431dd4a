use Rattle.std.specs.Prelude.{map}
use Rattle.c_tree.specs.Layout.{layout}
use Rattle.c_tree.specs.View.{members_in}
use Rattle.ref_machine_frames.specs.Cells.{AreCounted}
use Rattle.ref_machine_frames.proofs.cells.struct_cells.Given as goal

abbrev pub invariant-loop-depth : goal.invariant-loop-depth
invariant-loop-depth l = AreCounted (layout (map members_in l.structs) l._depth) l.counts.items
