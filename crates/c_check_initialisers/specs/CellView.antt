-- Cells of Rust, and what takes initialisers, as those of the rules.
use Rattle.std.specs.Prelude.{List, Vec, map}
use Rattle.std.specs.Global.{Global}
use Rattle.c_check_initialisers.specs.declared.slots.Slots.{Slots as SlotsTree}
use Rattle.c_check_initialisers.specs.declared.slots.Slots.TheVariants as s
use Rattle.c_check_values.specs.declared.typed_expression.TypedExpression.{TypedExpression as TypedExpressionTree}
use Rattle.c_check_values.specs.TypedExpressionView.{typed_expression_of}
use Rattle.c_rules.specs.TypedExpression.{TypedExpression}
use Rattle.c_rules.specs.Initialisers.{Slots, copies, each}
use Rattle.c_tree.specs.View.{ctype_of, ctypes_of}

abbrev pub typed_expressions_of : List TypedExpressionTree → List TypedExpression
typed_expressions_of gs = map typed_expression_of gs

abbrev pub cells_of : Vec TypedExpressionTree Global → List TypedExpression
cells_of cells = typed_expressions_of cells.items

abbrev pub slots_of : SlotsTree → Slots
slots_of (s.Copies n t) = copies n (ctype_of t)
slots_of (s.Each ts) = each (ctypes_of ts.items)
