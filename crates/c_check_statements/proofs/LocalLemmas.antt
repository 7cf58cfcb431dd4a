-- The first cells of a variable are within the limit on those of an object.
use Rattle.std.proofs.Common.{◌≡◌, ◌≤◌, List, length, arith}
use Rattle.std.proofs.lemmas.List.{length-map}
use Rattle.c_check_expressions.proofs.LengthLemmas.{AreWhole, local_few}
use Rattle.c_check_expressions.specs.CellView.{typed_expressions_of}
use Rattle.c_check_declarations.specs.TypedExpression.{TypedExpression as TypedExpressionTree}
use Rattle.c_check_declarations.specs.TypedExpressionView.{typed_expression_of}
use Rattle.c_rules.specs.Checked.{fine}
use Rattle.c_rules.specs.Initialisers.{initialised_local}
use Rattle.c_rules.specs.Limits.{most_cells}
use Rattle.c_rules.specs.Names.{Name}
use Rattle.c_rules.specs.Scopes.{Env, Before, Meaning, layout_of, with_name}
use Rattle.c_syntax.specs.Tree.{MaybeInit}
use Rattle.c_tree.specs.Layout.{cells}
use Rattle.c_tree.specs.Tree.{CType}

pub cells_few : (env : Env) (x : Name) (m : Meaning) (b : Before) (t : CType) (i : MaybeInit) (gs : List TypedExpressionTree) → AreWhole env → initialised_local (with_name env x m) b t i ≡ fine (typed_expressions_of gs) → cells (layout_of env) t ≤ most_cells
    → length gs ≤ most_cells
cells_few env x m b t i gs whole is few = omega (arith, few, local_few (with_name env x m) whole b t i (typed_expressions_of gs) is, length-map gs typed_expression_of)
