-- Objects of Rust as those of the rules.
use Rattle.std.specs.Prelude.{List, map}
use Rattle.c_check_values.specs.declared.typed_expression.TypedExpression.{TypedExpression as TypedExpressionTree}
use Rattle.c_check_values.specs.TypedExpressionView.{typed_expression_of}
use Rattle.c_check_declarations.specs.declared.types.Object.{Object as ObjectTree}
use Rattle.c_rules.specs.Initialisers.{value_of_cell}
use Rattle.c_rules.specs.Objects.{Object}
use Rattle.c_tree.specs.declared.value.Value.{Value}
use Rattle.c_tree.specs.View.{ctype_of}

abbrev pub object_seen : ObjectTree → Object
object_seen o = record { seen = ctype_of o.seen; whole = ctype_of o.whole }

-- the values of cells
abbrev pub cell_seen : TypedExpressionTree → Value
cell_seen g = value_of_cell (typed_expression_of g)

abbrev pub cells_seen : List TypedExpressionTree → List Value
cells_seen gs = map cell_seen gs
