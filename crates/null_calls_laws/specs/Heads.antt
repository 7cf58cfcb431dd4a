-- The expressions of statements in an instrumented unit beside those of the plain one.
use Rattle.std.specs.Prelude.{◌≡◌, ℕ, Bool, true, false, List}
use Rattle.c_tree.specs.Tree.{CType, Program}
use Rattle.c_tree.specs.Tree as typed
use Rattle.c_syntax.specs.Tree.{Expr, Maybe, absent, there}
use Rattle.c_rules.specs.Checked.{Checked, fine, faulty, gives}
use Rattle.c_rules.specs.Scopes.{Env, Before}
use Rattle.c_rules.specs.TypedExpression.{TypedExpression, tree_of}
use Rattle.c_rules.specs.Expressions.{value}
use Rattle.c_rules.specs.Statements.{condition_at, test_of, step_of, switched, returned}
use Rattle.null_calls_laws.specs.MarkedCalls.{Sites}
use Rattle.null_calls_laws.specs.InstrumentedExpressions.{expr, maybe, kept, kept_of_maybe}
use Rattle.null_calls_laws.specs.InstrumentedPrograms as with_null_calls
use Rattle.null_calls_laws.specs.WithoutSites.{unsited, unsited_maybe, unsited_stmt}
use Rattle.null_calls_laws.specs.TypedAlike.{More, plain_scope, instrumented_scope, AreUnreserved, MeanAlike}
use Rattle.null_calls_laws.specs.Remade.{IsOperand}
use Rattle.null_calls_laws.specs.Counts.{AreNamed, Near}
use Rattle.null_calls_laws.specs.Tabled.{AreTabled, AreFound}
use Rattle.null_calls_laws.specs.Follow.{types_of}
use Rattle.null_calls_laws.specs.InstrumentedCalls.{NullCallsStand}

module _ (p : Program) (k : ℕ) (ts : List CType) where
  -- a tree on the right where there is one on the left: the instrumented one, whose temporaries have the types ts and are numbered from k on
  abbrev pub TreeFollows : Checked typed.Expr → Checked typed.Expr → Type 0
  TreeFollows (fine e) s = (x : typed.Expr) × (s ≡ fine x) × (with_null_calls.kept p true e ≡ ts) × (unsited x ≡ with_null_calls.expr p k true e)
  TreeFollows (faulty f fs) s = Unit {0}

  -- one that may be left out
  abbrev pub MaybeFollows : (wanted : Bool) → Checked typed.Maybe → Checked typed.Maybe → Type 0
  MaybeFollows wanted (fine m) s = (x : typed.Maybe) × (s ≡ fine x) × (with_null_calls.kept_of_maybe p wanted m ≡ ts) × (unsited_maybe x ≡ with_null_calls.maybe p k wanted m)
  MaybeFollows wanted (faulty f fs) s = Unit {0}

  -- a value that is converted
  abbrev pub OperandFollows : Checked TypedExpression → Checked TypedExpression → Type 0
  OperandFollows (fine g) s = (h : TypedExpression) × (s ≡ fine h) × IsOperand p k ts g h
  OperandFollows (faulty f fs) s = Unit {0}

  abbrev pub StmtFollows : Checked typed.Stmt → Checked typed.Stmt → Type 0
  StmtFollows (fine s) t = (x : typed.Stmt) × (t ≡ fine x) × (with_null_calls.kept_of_stmt p s ≡ ts) × (unsited_stmt x ≡ with_null_calls.stmt p k s)
  StmtFollows (faulty f fs) t = Unit {0}

-- an expression that may be left out has the property
abbrev pub IfThere : (Expr → Type 0) → Maybe → Type 0
IfThere P absent = Unit {0}
IfThere P (there e) = P e

module _ (p : Program) (sites : Sites) (env : Env) (w : More) where
  abbrev pub Plain : Env
  Plain = plain_scope env

  abbrev pub Instrumented : Env
  Instrumented = instrumented_scope env w

  -- what is known of an expression whose calls are tabled
  pub record Stands (b : Before) (k : ℕ) (wanted : Bool) (x : Expr) : Type 0 where
    pub named : AreNamed sites b.sites x
    pub tabled : AreTabled p sites Plain b x
    pub found : AreFound w.names k (kept sites b.sites wanted x)

  pub record HeadsGo (b b' : Before) (k : ℕ) : Type 0 where
    pub conditions : (at : ℕ) (x : Expr) → Stands b k true x → TreeFollows p k (types_of (kept sites b.sites true x)) (condition_at at (value Plain b x)) (condition_at at (value Instrumented b' (expr sites b.sites true x)))
    pub tests : (at : ℕ) (m : Maybe) → IfThere (Stands b k true) m → MaybeFollows p k (types_of (kept_of_maybe sites b.sites true m)) true (test_of Plain b at m) (test_of Instrumented b' at (maybe sites b.sites true m))
    pub steps : (m : Maybe) → IfThere (Stands b k false) m → MaybeFollows p k (types_of (kept_of_maybe sites b.sites false m)) false (step_of Plain b m) (step_of Instrumented b' (maybe sites b.sites false m))
    pub switches : (at : ℕ) (x : Expr) → Stands b k true x → OperandFollows p k (types_of (kept sites b.sites true x)) (switched at (value Plain b x)) (switched at (value Instrumented b' (expr sites b.sites true x)))
    pub returns : (at : ℕ) (t : CType) (m : Maybe) → IfThere (Stands b k true) m → StmtFollows p k (types_of (kept_of_maybe sites b.sites true m)) (returned Plain b at t m) (returned Instrumented b' at t (maybe sites b.sites true m))
    pub evaluated : (x : Expr) → Stands b k false x → StmtFollows p k (types_of (kept sites b.sites false x)) (gives (value Plain b x) (λ g. typed.evaluate (tree_of g))) (gives (value Instrumented b' (expr sites b.sites false x)) (λ g. typed.evaluate (tree_of g)))

abbrev pub AllHeadsGo : Type 0
AllHeadsGo = (p : Program) (sites : Sites) (env : Env) (w : More) → AreUnreserved env.names → MeanAlike env.names w.names → NullCallsStand p env w → (b b' : Before) (k : ℕ) → Near b b' → HeadsGo p sites env w b b' k
