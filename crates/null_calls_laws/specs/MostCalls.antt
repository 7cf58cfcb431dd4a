-- The limit on calls (5.2.4.1).
use Rattle.std.specs.Prelude.{◌≡◌, ◌+◌, ◌≤◌}
use Rattle.c_syntax.specs.Tree.{Expr}
use Rattle.c_rules.specs.Checked.{fine}
use Rattle.c_rules.specs.Limits.{most_calls}
use Rattle.c_rules.specs.Scopes.{Env, evaluated, Before}
use Rattle.c_rules.specs.Counts.{calls}
use Rattle.c_rules.specs.TypedExpression.{TypedExpression}
use Rattle.c_rules.specs.Expressions.{tree}

-- the calls of an expression that is fine are within the limit of the mode, where those before it are
abbrev pub CallsAreWithin : Type 0
CallsAreWithin =
    (env : Env) (b : Before) (x : Expr) (g : TypedExpression) → env.context ≡ evaluated → tree env b x ≡ fine g → b.sites ≤ most_calls env.whole.mode → b.sites + calls x ≤ most_calls env.whole.mode
