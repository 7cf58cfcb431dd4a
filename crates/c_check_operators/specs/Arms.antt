-- For private contracts and proofs alone: the arms of a conditional expression.
use Rattle.std.specs.Prelude.{ℕ, ◌&&◌}
use Rattle.c_tree.specs.Tree.{void}
use Rattle.c_rules.specs.Checked.{Checked, demand}
use Rattle.c_rules.specs.Codes.{C3}
use Rattle.c_rules.specs.Types.{is_void}
use Rattle.c_rules.specs.BinaryExpressions.{chosen}
use Rattle.c_rules.specs.TypedExpression.{TypedExpression}

-- the arms of ?: where they are not alike
abbrev pub void_arms : (at : ℕ) → TypedExpression → TypedExpression → TypedExpression → Checked TypedExpression
void_arms at c a b = demand (is_void a.ctype && is_void b.ctype) C3 at (chosen void c a b)
