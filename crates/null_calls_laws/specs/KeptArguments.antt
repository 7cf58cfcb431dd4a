-- The arguments of a marked call, which are kept in temporaries before what follows them in the comma expression.
use Rattle.std.specs.Prelude.{◌≡◌, ℕ, ◌+◌, ◌*◌, ◌≤◌, true, List, ◌++◌, length}
use Rattle.c_tree.specs.Tree.{CTypes, list_of, Program}
use Rattle.c_tree.specs.Tree as typed
use Rattle.c_syntax.specs.Tree.{Exprs, no_exprs, more_exprs}
use Rattle.c_rules.specs.Checked.{fine}
use Rattle.c_rules.specs.Types.{count}
use Rattle.c_rules.specs.Scopes.{Env, Before}
use Rattle.c_rules.specs.Counts.{after}
use Rattle.c_rules.specs.TypedExpression.{TypedExpression}
use Rattle.c_rules.specs.PostfixExpressions.{all_fit, passed}
use Rattle.c_rules.specs.Assignments.{trees_of}
use Rattle.c_rules.specs.Expressions.{trees}
use Rattle.null_calls_laws.specs.MarkedCalls.{Sites}
use Rattle.null_calls_laws.specs.Temporaries.{arguments_kept}
use Rattle.null_calls_laws.specs.InstrumentedExpressions.{arguments, kept_of_arguments, keep_arguments}
use Rattle.null_calls_laws.specs.InstrumentedPrograms as with_null_calls
use Rattle.null_calls_laws.specs.WithoutSites.{unsited_all}
use Rattle.c_rules_laws.specs.TypedAlike.{More, plain_scope, instrumented_scope}
use Rattle.null_calls_laws.specs.Counts.{AllNamed}
use Rattle.null_calls_laws.specs.Tabled.{AllTabled, AreFound}
use Rattle.null_calls_laws.specs.Follow.{types_of, AllGo}

-- so much stands before a part, with room for some more calls
pub record NearBy (slack : ℕ) (b b' : Before) : Type 0 where
  pub sites : b'.sites + slack ≤ 3 * b.sites
  pub strings : b'.strings ≡ b.strings
  pub cells : b'.cells ≡ b.cells

-- behind all these expressions
abbrev pub after_all : Before → Exprs → Before
after_all b no_exprs = b
after_all b (more_exprs e es) = after_all (after b e) es

-- the arguments gs, which are kept in the temporaries from j on, give members of the comma expression, and what follows them gives the others
pub record ArgumentsAreKept (p : Program) (sites : Sites) (env : Env) (w : More) (slack : ℕ) (b b' : Before) (at site i j k : ℕ) (es rest : Exprs) (ps : CTypes) (gs : List TypedExpression) : Type 0 where
  pub given : List TypedExpression
  pub last : Before
  pub near : NearBy slack (after_all b es) last
  pub chain : (hs : List TypedExpression) → trees (instrumented_scope env w) last rest ≡ fine hs → trees (instrumented_scope env w) b' (keep_arguments at site i (arguments sites b.sites es) rest) ≡ fine (given ++ hs)
  pub types : with_null_calls.kept_of_all p (passed ps gs) ≡ types_of (kept_of_arguments sites b.sites es)
  pub trees_kept : (typed_rest : typed.Exprs) (hs : List TypedExpression) → unsited_all (trees_of hs) ≡ typed_rest → unsited_all (trees_of (given ++ hs)) ≡ with_null_calls.keep_all j (list_of ps) (with_null_calls.arguments p k (passed ps gs)) typed_rest

abbrev pub KeptArgumentsGo : Type 0
KeptArgumentsGo =
    (p : Program) (sites : Sites) (env : Env) (w : More) (es : Exprs) (ps : CTypes) (slack : ℕ) → AllGo p sites env w es → (b b' : Before) (at site i j k : ℕ) (rest : Exprs) (gs : List TypedExpression)
    → AllNamed sites b.sites es → AllTabled p sites (plain_scope env) b es → AreFound w.names j (arguments_kept site i ps) → AreFound w.names k (kept_of_arguments sites b.sites es) → NearBy slack b b'
    → trees (plain_scope env) b es ≡ fine gs → all_fit ps gs ≡ true → length gs ≡ count ps → ArgumentsAreKept p sites env w slack b b' at site i j k es rest ps gs
