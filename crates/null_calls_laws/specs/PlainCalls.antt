-- Calls that are not marked, whose parts have null calls round their marked calls.
use Rattle.std.specs.Prelude.{◌≡◌, ℕ, ◌+◌, true, None}
use Rattle.c_tree.specs.Tree.{Program}
use Rattle.c_syntax.specs.Tree.{Expr, call, Exprs}
use Rattle.c_rules.specs.Scopes.{Env, Before}
use Rattle.c_rules.specs.Counts.{calls}
use Rattle.c_rules.specs.Expressions.{tree}
use Rattle.null_calls_laws.specs.MarkedCalls.{Sites}
use Rattle.null_calls_laws.specs.InstrumentedExpressions.{expr, kept}
use Rattle.c_rules_laws.specs.TypedAlike.{More, plain_scope, instrumented_scope, AreUnreserved, MeanAlike}
use Rattle.null_calls_laws.specs.Remade.{Follows}
use Rattle.null_calls_laws.specs.Counts.{AreNamed, Near}
use Rattle.null_calls_laws.specs.Tabled.{AreTabled, AreFound}
use Rattle.null_calls_laws.specs.Follow.{types_of, Goes, AllGo}

-- a call at a site that is not marked gives what the plain one gives, where its designator and its arguments do
abbrev pub UnmarkedCallsGo : Type 0
UnmarkedCallsGo =
    (p : Program) (sites : Sites) (env : Env) (w : More) → AreUnreserved env.names → MeanAlike env.names w.names → (at : ℕ) (d : Expr) (es : Exprs) → Goes p sites env w d → AllGo p sites env w es
    → (b b' : Before) (k : ℕ) → sites (b.sites + calls d) ≡ None → AreNamed sites b.sites (call at d es) → AreTabled p sites (plain_scope env) b (call at d es) → AreFound w.names k (kept sites b.sites true (call at d es)) → Near b b'
    → Follows p k (types_of (kept sites b.sites true (call at d es))) (tree (plain_scope env) b (call at d es)) (tree (instrumented_scope env w) b' (expr sites b.sites true (call at d es)))
