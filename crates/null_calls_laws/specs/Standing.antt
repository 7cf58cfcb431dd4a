-- The scopes in the body of a function of the instrumented unit beside those of the plain one.
use Rattle.std.specs.Prelude.{◌≡◌, ℕ, Bool, true, List}
use Rattle.c_tree.specs.Tree.{Program}
use Rattle.c_syntax.specs.Tree.{Expr}
use Rattle.c_rules.specs.Names.{Name, is_reserved}
use Rattle.c_rules.specs.Scopes.{Env, Binding, lookup, inside}
use Rattle.null_calls_laws.specs.MarkedCalls.{Sites}
use Rattle.null_calls_laws.specs.InstrumentedExpressions.{kept}
use Rattle.null_calls_laws.specs.TypedAlike.{More, plain_scope, instrumented_scope, AreUnreserved, MeanAlike}
use Rattle.null_calls_laws.specs.Tabled.{AreFound}
use Rattle.null_calls_laws.specs.InstrumentedCalls.{NullCallsStand}

-- names that are reserved mean the same
abbrev pub ReservedMeanAlike : List Binding → List Binding → Type 0
ReservedMeanAlike names ns = (x : Name) → is_reserved x ≡ true → lookup ns x ≡ lookup names x

-- A scope in a body of the plain unit, and one of the instrumented unit: names that aren't reserved mean the same in both; the null
-- calls are functions in the second one; and reserved names mean in it what they mean in `names`, which are those behind the
-- declarations of the body's temporaries.
pub data StandBeside (p : Program) (names : List Binding) : Env → Env → Type 0 where
  stand_beside : (env : Env) (w : More) → AreUnreserved env.names → MeanAlike env.names w.names → NullCallsStand p env w → ReservedMeanAlike names w.names → StandBeside p names (plain_scope env) (instrumented_scope env w)

-- inside a block they still stand beside each other
abbrev pub BlocksStandBeside : Type 0
BlocksStandBeside = (p : Program) (names : List Binding) (e f : Env) → StandBeside p names e f → StandBeside p names (inside e) (inside f)

-- the temporaries of an expression mean the same where reserved names do
abbrev pub TemporariesStay : Type 0
TemporariesStay =
    (sites : Sites) (names ns : List Binding) → ReservedMeanAlike names ns → (b k : ℕ) (wanted : Bool) (x : Expr) → AreFound names k (kept sites b wanted x) → AreFound ns k (kept sites b wanted x)
