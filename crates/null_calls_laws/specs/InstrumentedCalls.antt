-- Calls of an instrumented unit, of which those that are marked stand between their null calls.
use Rattle.std.specs.Prelude.{◌≡◌, length, None}
use Rattle.c_tree.specs.Tree.{Program}
use Rattle.c_tree.specs.Functions.{defined}
use Rattle.c_syntax.specs.Tree.{Expr}
use Rattle.c_rules.specs.Names.{number_among}
use Rattle.c_rules.specs.Scopes.{Env, evaluated}
use Rattle.null_calls_laws.specs.MarkedCalls.{Sites}
use Rattle.null_calls_laws.specs.Temporaries.{pre_name, post_name}
use Rattle.c_rules_laws.specs.TypedAlike.{More, AreUnreserved, MeanAlike}
use Rattle.null_calls_laws.specs.Tabled.{AreNullCalls}
use Rattle.null_calls_laws.specs.Follow.{Goes, CallsGo}

-- In the scope of the instrumented unit there are the null calls. They are not among the functions of the program, and are numbered after
-- these.
pub record NullCallsStand (p : Program) (env : Env) (w : More) : Type 0 where
  pub runs : env.context ≡ evaluated
  pub named : AreNullCalls w.names
  pub functions : length env.whole.functions ≡ defined p
  pub pre_free : number_among env.whole.functions pre_name ≡ None
  pub post_free : number_among env.whole.functions post_name ≡ None

-- every call goes
abbrev pub AllCallsGo : Type 0
AllCallsGo = (p : Program) (sites : Sites) (env : Env) (w : More) → AreUnreserved env.names → MeanAlike env.names w.names → NullCallsStand p env w → CallsGo p sites env w

-- every expression does
abbrev pub AllExpressionsGo : Type 0
AllExpressionsGo = (p : Program) (sites : Sites) (env : Env) (w : More) → AreUnreserved env.names → MeanAlike env.names w.names → NullCallsStand p env w → (x : Expr) → Goes p sites env w x
