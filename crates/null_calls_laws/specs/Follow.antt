-- An expression with null calls round its marked calls beside the plain one: it gives the same with the instrumented tree.
use Rattle.std.specs.Prelude.{◌≡◌, ℕ, false, true, List, [], ◌∷◌}
use Rattle.c_tree.specs.Tree.{CType, Program}
use Rattle.c_syntax.specs.Tree.{Expr, call, Exprs, no_exprs, more_exprs}
use Rattle.c_rules.specs.Checked.{Checked, fine, faulty}
use Rattle.c_rules.specs.Scopes.{Env, Before}
use Rattle.c_rules.specs.TypedExpression.{TypedExpression, tree_of}
use Rattle.c_rules.specs.Expressions.{tree, value}
use Rattle.null_calls_laws.specs.MarkedCalls.{Sites}
use Rattle.null_calls_laws.specs.Temporaries.{Temporary}
use Rattle.null_calls_laws.specs.InstrumentedExpressions.{expr, kept}
use Rattle.null_calls_laws.specs.InstrumentedPrograms as with_null_calls
use Rattle.null_calls_laws.specs.WithoutSites.{unsited}
use Rattle.c_rules_laws.specs.TypedAlike.{More, plain_scope, instrumented_scope, AreUnreserved, MeanAlike}
use Rattle.null_calls_laws.specs.Remade.{Follows}
use Rattle.null_calls_laws.specs.Counts.{AreNamed, Near}
use Rattle.null_calls_laws.specs.Tabled.{AreTabled, AreFound}

-- the types of temporaries
abbrev pub types_of : List Temporary → List CType
types_of [] = []
types_of (x ∷ xs) = x.ctype ∷ types_of xs

-- where a value isn't wanted, only the trees agree
abbrev pub UnusedFollows : Program → (k : ℕ) → List CType → Checked TypedExpression → Checked TypedExpression → Type 0
UnusedFollows p k ts (fine g) s = (h : TypedExpression) × (s ≡ fine h) × (with_null_calls.kept p false (tree_of g) ≡ ts) × (unsited (tree_of h) ≡ with_null_calls.expr p k false (tree_of g))
UnusedFollows p k ts (faulty f fs) s = Unit {0}

module _ (p : Program) (sites : Sites) (env : Env) (w : More) where
  -- an expression whose value is wanted
  abbrev pub ExprFollows : Expr → Type 0
  ExprFollows x =
      (b b' : Before) (k : ℕ) → AreNamed sites b.sites x → AreTabled p sites (plain_scope env) b x → AreFound w.names k (kept sites b.sites true x) → Near b b' → Follows p k (types_of (kept sites b.sites true x)) (tree (plain_scope env) b x) (tree (instrumented_scope env w) b' (expr sites b.sites true x))

  -- one whose value isn't
  abbrev pub UnusedExprFollows : Expr → Type 0
  UnusedExprFollows x =
      (b b' : Before) (k : ℕ) → AreNamed sites b.sites x → AreTabled p sites (plain_scope env) b x → AreFound w.names k (kept sites b.sites false x) → Near b b' → UnusedFollows p k (types_of (kept sites b.sites false x)) (value (plain_scope env) b x) (value (instrumented_scope env w) b' (expr sites b.sites false x))

  pub record Goes (x : Expr) : Type 0 where
    pub wanted : ExprFollows x
    pub unused : UnusedExprFollows x

  abbrev pub AllGo : Exprs → Type 0
  AllGo no_exprs = Unit {0}
  AllGo (more_exprs e es) = Goes e × AllGo es

  -- a call does, where its designator and its arguments do
  abbrev pub CallsGo : Type 0
  CallsGo = (at : ℕ) (d : Expr) (es : Exprs) → Goes d → AllGo es → Goes (call at d es)

-- every expression does where calls do
abbrev pub ExpressionsGo : Type 0
ExpressionsGo = (p : Program) (sites : Sites) (env : Env) (w : More) → AreUnreserved env.names → MeanAlike env.names w.names → CallsGo p sites env w → (x : Expr) → Goes p sites env w x
