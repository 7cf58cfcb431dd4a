-- What the shapes of Rust that hold lists are seen as.
use Rattle.std.proofs.Common.{◌≡◌, Bool, true, Vec, Global, refl, ap, ◌∙◌}
use Rattle.std.specs.Prelude.{Box}
use mathlib.Core.Former.{Count}
use Rattle.flow_graph.specs.declared.shape.Shape.{Shape as Tree, Cases', Row_of-Shape, end_of-Shape, more_of-Shape, items-the_row-Shape, items_hidden-the_row-Shape-0}
use Rattle.flow_graph.specs.declared.shape.Shape.TheVariants.{Seq as SeqTree, Cases as CasesTree}
use Rattle.c_meaning.specs.Shape.{Seq, Cases, Part}
use Rattle.flow_graph.specs.View.{shape_of, parts_of_row, parts_of}

parts_row : (n : _) (row : Row_of-Shape n) → parts_of_row row ≡ parts_of (items-the_row-Shape n row)
parts_row n end_of-Shape = refl
parts_row n (more_of-Shape t rest) = ap (Part (shape_of t)) (parts_row _ rest)

abbrev row_in : Tree → (n : Count) × Row_of-Shape n
row_in (Cases' shape row d) = (_, row)
row_in _ = (_, end_of-Shape)

parts_in : (v : Vec Tree Global) (d : Bool) → parts_of_row (row_in (CasesTree v d)).1 ≡ parts_of v.items
parts_in v d = parts_row (row_in (CasesTree v d)).0 (row_in (CasesTree v d)).1 ∙ ap parts_of (items_hidden-the_row-Shape-0 v)

pub cases_is : (v : Vec Tree Global) (d : Bool) → shape_of (CasesTree v d) ≡ Cases (parts_of v.items) d
cases_is v d = ap (λ ps. Cases ps d) (parts_in v d)

pub seq_is : (t : Box Tree Global) (v : Vec Tree Global) → shape_of (SeqTree t v) ≡ Seq (shape_of t.value) (parts_of v.items)
seq_is t v = ap (Seq (shape_of t.value)) (parts_in v true)
