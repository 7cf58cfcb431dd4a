use Rattle.std.proofs.Common.{length, ap, ◌∙◌}
use Rattle.c_tree.specs.Layout.{flat_with}
use Rattle.c_tree.specs.View.{ctype_of}
use Rattle.ref_machine_frames.specs.Cells.{kept}
use Rattle.ref_machine_frames.proofs.CellLemmas.{array_counted}
use Rattle.ref_machine_frames.proofs.cells.+cells_with.Goals as goal

pub returns-in-Array : goal.returns-in-Array
returns-in-Array t c types h =
    array_counted types (ctype_of c.in-Array.element.value) (ctype_of c.args.t.now) c.in-Array.n c.cells_with-each.result c.times.result (ap ctype_of c.in-Array.is) (c.cells_with-each.ensures types h ∙ ap (λ t. kept (length (flat_with types (ctype_of t)))) c.deref.ensures) c.times.ensures
