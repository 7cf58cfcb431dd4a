use Rattle.std.proofs.Common.{◌≡◌, ℕ, suc, length}
use Rattle.std.specs.Prelude.{map}
use Rattle.c_tree.specs.Layout.{layout}
use Rattle.c_tree.specs.View.{members_in}
use Rattle.ref_machine_frames.specs.Cells.{AreCounted}
use Rattle.ref_machine_frames.proofs.CellLemmas.{CountedTo}
use Rattle.ref_machine_frames.proofs.cells.deeper.Given as goal

abbrev pub invariant-loop-members : goal.invariant-loop-members
invariant-loop-members l = record {
  many : length l.next.items ≡ l.members-index;
  counted : (depth : ℕ) → AreCounted (layout (map members_in l.structs) depth) l.counts → CountedTo (layout (map members_in l.structs) (suc depth)) l.next.items;
}
