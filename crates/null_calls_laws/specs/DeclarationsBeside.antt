-- Declarations in blocks (C99 6.7) of an instrumented unit beside those of the plain one.
use Rattle.std.specs.Prelude.{◌≡◌, ℕ, List, [], Option, None, Some}
use Rattle.c_tree.specs.Tree.{CType, Program}
use Rattle.c_tree.specs.Tree as typed
use Rattle.c_syntax.specs.Tree.{Ident, Spec, Declarator, MaybeInit, Parts, no_parts, more_parts, Decl, decl, First, first_absent, first_expr, first_decl}
use Rattle.c_rules.specs.Checked.{Checked, fine, faulty}
use Rattle.c_rules.specs.Names.{Name}
use Rattle.c_rules.specs.Scopes.{Env, Binding, Before}
use Rattle.c_rules.specs.Declarators.{name_of}
use Rattle.c_rules.specs.Objects.{Object, object_declared}
use Rattle.c_rules.specs.Variables.{Next, names_of_decl, names_of_first, past_names}
use Rattle.c_rules.specs.Blocks.{within_local, behind_part, past_part, behind_decl, behind_first, after_part, after_decl, after_first, StatementTree, with_tree, local_decl}
use Rattle.c_rules.specs.Statements.{first_of}
use Rattle.null_calls_laws.specs.MarkedCalls.{Sites}
use Rattle.null_calls_laws.specs.InstrumentedStatements.{declaration, kept_of_decl, first, kept_of_first}
use Rattle.null_calls_laws.specs.InstrumentedPrograms as with_null_calls
use Rattle.null_calls_laws.specs.WithoutSites.{unsited_stmts}
use Rattle.null_calls_laws.specs.Counts.{Near}
use Rattle.null_calls_laws.specs.CountedStatements.{DeclNamed, FirstNamed}
use Rattle.null_calls_laws.specs.Tabled.{AreTabled, AreFound}
use Rattle.null_calls_laws.specs.Follow.{types_of}
use Rattle.null_calls_laws.specs.Standing.{StandBeside}
use Rattle.null_calls_laws.specs.Initialisers.{MaybeInitTabled}

-- each call stands at its site
module _ (p : Program) (sites : Sites) where
  -- in the initialiser of a variable of an object's type, in which its name is in scope (6.2.1 paragraph 7)
  abbrev pub NamedTabled : Env → Before → Next → (at : ℕ) → Spec → Declarator → MaybeInit → Option Ident → Type 0
  NamedTabled env b next at s d m None = Unit {0}
  NamedTabled env b next at s d m (Some x) =
      (o : Object) → object_declared env at s d x m ≡ fine o → MaybeInitTabled p sites (within_local env next x (object_declared env at s d x m)) b o.whole m

  abbrev pub PartsTabled : Env → Before → Next → (at : ℕ) → Spec → Parts → Type 0
  PartsTabled env b next at s no_parts = Unit {0}
  PartsTabled env b next at s (more_parts d m ps) =
      NamedTabled env b next at s d m (name_of d) × PartsTabled (behind_part env next at s d m) (after_part env b at s d m) (past_part next d) at s ps

  abbrev pub DeclTabled : Env → Before → Next → Decl → Type 0
  DeclTabled env b next (decl at class s ps) = PartsTabled env b next at s ps

  abbrev pub FirstTabled : Env → Before → Next → First → Type 0
  FirstTabled env b next first_absent = Unit {0}
  FirstTabled env b next (first_expr e) = AreTabled p sites env b e
  FirstTabled env b next (first_decl d) = DeclTabled env b next d

-- Statements on the right where there are some on the left: the instrumented ones, whose temporaries have the types ts and are numbered from
-- k on. They have the same variables, of which none is the instrumenter's.
abbrev pub StatementTreeFollow : Program → (k : ℕ) → List CType → Checked (StatementTree typed.Stmts) → Checked (StatementTree typed.Stmts) → Type 0
StatementTreeFollow p k ts (fine q) s =
    (x : typed.Stmts) × (s ≡ fine (with_tree q x)) × (q.added ≡ []) × (with_null_calls.kept_of_stmts p q.tree ≡ ts) × (unsited_stmts x ≡ with_null_calls.stmts p k q.tree)
StatementTreeFollow p k ts (faulty f fs) s = Unit {0}

-- the next number of a variable that isn't the instrumenter's
abbrev pub SameNumber : Next → Next → Type 0
SameNumber n m = m.plain ≡ n.plain

-- it stays the same behind variables of the same names
abbrev pub NumbersStay : Type 0
NumbersStay = (n m : Next) (xs : List Name) → SameNumber n m → SameNumber (past_names n xs) (past_names m xs)

module _ (p : Program) (sites : Sites) (names : List Binding) (e f : Env) (b b' : Before) (next next' : Next) (k : ℕ) where
  -- A declaration in a block: what it gives, and, where it is fine, the scopes behind it and so much that stands before what follows.
  pub record DeclGoes (d : Decl) : Type 0 where
    pub laid : StatementTreeFollow p k (types_of (kept_of_decl sites b.sites d)) (local_decl e b next d) (local_decl f b' next' (declaration sites b.sites d))
    pub scopes : (q : StatementTree typed.Stmts) → local_decl e b next d ≡ fine q → StandBeside p names (behind_decl e next d) (behind_decl f next' (declaration sites b.sites d))
    pub near : (q : StatementTree typed.Stmts) → local_decl e b next d ≡ fine q → Near (after_decl e b next d) (after_decl f b' next' (declaration sites b.sites d))
    pub numbers : SameNumber (past_names next (names_of_decl d)) (past_names next' (names_of_decl (declaration sites b.sites d)))

  -- what stands first in the head of a for (6.8.5.3)
  pub record FirstGoes (d : First) : Type 0 where
    pub laid : StatementTreeFollow p k (types_of (kept_of_first sites b.sites d)) (first_of e b next d) (first_of f b' next' (first sites b.sites d))
    pub scopes : (q : StatementTree typed.Stmts) → first_of e b next d ≡ fine q → StandBeside p names (behind_first e next d) (behind_first f next' (first sites b.sites d))
    pub near : (q : StatementTree typed.Stmts) → first_of e b next d ≡ fine q → Near (after_first e b next d) (after_first f b' next' (first sites b.sites d))
    pub numbers : SameNumber (past_names next (names_of_first d)) (past_names next' (names_of_first (first sites b.sites d)))

-- every declaration in a block
abbrev pub DeclarationsGo : Type 0
DeclarationsGo =
    (p : Program) (sites : Sites) (names : List Binding) (e f : Env) → StandBeside p names e f → (b b' : Before) (next next' : Next) (k : ℕ) (d : Decl)
    → DeclNamed sites b.sites d → DeclTabled p sites e b next d → AreFound names k (kept_of_decl sites b.sites d) → Near b b' → SameNumber next next' → DeclGoes p sites names e f b b' next next' k d

-- every first part of a for
abbrev pub FirstsGo : Type 0
FirstsGo =
    (p : Program) (sites : Sites) (names : List Binding) (e f : Env) → StandBeside p names e f → (b b' : Before) (next next' : Next) (k : ℕ) (d : First)
    → FirstNamed sites b.sites d → FirstTabled p sites e b next d → AreFound names k (kept_of_first sites b.sites d) → Near b b' → SameNumber next next' → FirstGoes p sites names e f b b' next next' k d
