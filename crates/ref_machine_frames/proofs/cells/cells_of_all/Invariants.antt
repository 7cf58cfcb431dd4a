use Rattle.std.proofs.Common.{◌≡◌, ℕ, ◌+◌, ◌≤◌, List, length, drop}
use Rattle.c_tree.specs.Tree.{CType}
use Rattle.c_tree.specs.Layout.{flat_all_with}
use Rattle.c_tree.specs.View.{ctypes_of}
use Rattle.ref_machine_frames.specs.Cells.{AreCounted, kept}
use Rattle.ref_machine_frames.proofs.cells.cells_of_all.Given as goal

abbrev pub invariant-loop-t : goal.invariant-loop-t
invariant-loop-t l = record {
  small : l.sum ≤ 65537;
  counted : (types : ℕ → List CType) → AreCounted types l.counts → kept (length (flat_all_with types (ctypes_of l.types))) ≡ kept (l.sum + length (flat_all_with types (ctypes_of (drop l.t-index l.types))));
}
