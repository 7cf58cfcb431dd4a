-- Well-typed expressions and statements: a relation by cases on the forms, each with its section of C99.
use Rattle.std.specs.Prelude.{◌≡◌, ℕ, ◌+◌, ◌≤◌, Bool, true, false, IsTrue, List, [], ◌∷◌, All, Some, slice_get}
use Rattle.c_tree.specs.declared.value.IntType.{IntType}
use Rattle.c_tree.specs.declared.tree.TLabel.{TLabel}
use Rattle.c_tree.specs.declared.tree.TLabel.TheVariants.{Case, Default}
use Rattle.c_tree.specs.Tree.{CType, void, integer, pointer, struct, function, CTypes, no_types, more_types, Static, Program, type_of}
use Rattle.c_tree.specs.Tree.{Expr, constant, function_name, string_place, variable, dereference, load, address_of, decay, discard, field, unary_operation, conversion, arithmetic, comparison, pointer_add, pointer_diff, and, or, assign, update, conditional, comma, call, call_through}
use Rattle.c_tree.specs.Tree.{Exprs, no_exprs, more_exprs, Maybe, absent, there, Inits, no_inits, more_inits}
use Rattle.c_tree.specs.Tree.{Stmt, block, empty, evaluate, declare, if_else, while_loop, do_loop, for_loop, switch_on, break_off, continue_on, return_void, return_value, Stmts, no_stmts, more_stmts, Groups, no_groups, more_groups}
use Rattle.c_tree.specs.Layout.{flat, first_cell}
use Rattle.c_tree.specs.Functions.{int, value_type, called_type}
use Rattle.c_tree.specs.Operands.{IsScalar, IsTarget, IsPromoted, IsIntegerType, IsObjectPointer, FitsArithmetic, FitsUnary, FitsComparison, FitsPointerAdd, FitsUpdate, Decays}
use Rattle.c_tree.specs.Kinds.{IsConstant}

-- the static with this number is a string or is none, and has this type
abbrev pub IsStaticOf : Program → Bool → ℕ → CType → Type 0
IsStaticOf p string n t = (s : Static) × (slice_get p.statics n ≡ Some s) × (s.string ≡ string) × (s.ctype ≡ t)

-- the variable is one of the statics, or one of the function's
abbrev pub IsVariableOf : Program → List CType → Bool → ℕ → CType → Type 0
IsVariableOf p vars true n t = IsStaticOf p false n t
IsVariableOf p vars false n t = slice_get vars n ≡ Some t

-- the member of a struct of this type that begins at this cell has that type
abbrev pub IsMemberOf : Program → CType → ℕ → CType → Type 0
IsMemberOf p u first t =
    (s : ℕ) × (ts : List CType) × (k : ℕ) × (u ≡ struct s) × (slice_get p.structs s ≡ Some (Some ts)) × (slice_get ts k ≡ Some t) × (first ≡ first_cell p.structs ts k)

abbrev mutual
  -- in a function with these variables the expression gives a value of its type, or none where that is void
  pub IsValue : Program → List CType → Expr → Type 0
  -- 6.4.4, 6.5.3.4
  IsValue p vars (constant t v) = IsConstant t v
  -- 6.3.2.1 paragraph 2
  IsValue p vars (load t a) = IsScalar t × (type_of a ≡ t) × IsPlace p vars a
  -- 6.5.3.2
  IsValue p vars (address_of t a) = (t ≡ pointer (type_of a)) × IsPlace p vars a
  -- 6.3.2.1 paragraphs 3 and 4
  IsValue p vars (decay t a) = Decays p.structs (type_of a) t × IsPlace p vars a
  -- 6.3.2.2
  IsValue p vars (discard t a) = (t ≡ void) × IsValue p vars a
  -- 6.5.3.3
  IsValue p vars (unary_operation t op a) = FitsUnary op t (type_of a) × IsValue p vars a
  -- 6.3.1
  IsValue p vars (conversion t to a) = (t ≡ integer to) × IsIntegerType (type_of a) × IsValue p vars a
  -- 6.5.5 to 6.5.7, 6.5.10 to 6.5.12
  IsValue p vars (arithmetic t op a b) =
      FitsArithmetic op t (type_of a) (type_of b) × IsValue p vars a × IsValue p vars b
  -- 6.5.8, 6.5.9
  IsValue p vars (comparison t op a b) =
      FitsComparison p.structs op t (type_of a) (type_of b) × IsValue p vars a × IsValue p vars b
  -- 6.5.6 paragraph 8
  IsValue p vars (pointer_add t first subtracted a b) =
      FitsPointerAdd p.structs first subtracted t (type_of a) (type_of b) × IsValue p vars a × IsValue p vars b
  -- 6.5.6 paragraph 9
  IsValue p vars (pointer_diff t a b) =
      (t ≡ int) × IsObjectPointer p.structs (type_of a) × (type_of b ≡ type_of a) × IsValue p vars a × IsValue p vars b
  -- 6.5.13
  IsValue p vars (and t a b) = (t ≡ int) × (IsScalar (type_of a) × IsValue p vars a) × (IsScalar (type_of b) × IsValue p vars b)
  -- 6.5.14
  IsValue p vars (or t a b) = (t ≡ int) × (IsScalar (type_of a) × IsValue p vars a) × (IsScalar (type_of b) × IsValue p vars b)
  -- 6.5.16.1
  IsValue p vars (assign t a b) =
      IsScalar t × (type_of a ≡ t) × (type_of b ≡ t) × IsPlace p vars a × IsValue p vars b
  -- 6.5.16.2, 6.5.2.4, 6.5.3.1
  IsValue p vars (update t op old a b) =
      FitsUpdate p.structs op t (type_of b) × (type_of a ≡ t) × IsPlace p vars a × IsValue p vars b
  -- 6.5.15
  IsValue p vars (conditional t c a b) =
      (IsScalar (type_of c) × IsValue p vars c) × (type_of a ≡ t) × (type_of b ≡ t) × IsValue p vars a × IsValue p vars b
  -- 6.5.17
  IsValue p vars (comma t es) = AreMembers p vars t es
  -- 6.5.2.2
  IsValue p vars (call t site f es) = (ts : CTypes) × (called_type p f ≡ Some (function t ts)) × AreArguments p vars ts es
  -- 6.5.2.2
  IsValue p vars (call_through t site a es) =
      (ts : CTypes) × (type_of a ≡ pointer (function t ts)) × IsValue p vars a × AreArguments p vars ts es
  IsValue p vars _ = ⊥

  -- the expression gives an object or a function of its type
  pub IsPlace : Program → List CType → Expr → Type 0
  -- 6.5.1 paragraph 2
  IsPlace p vars (function_name t f) = value_type p f ≡ Some t
  -- 6.5.1 paragraph 4
  IsPlace p vars (string_place t n) = IsStaticOf p true n t
  -- 6.5.1 paragraph 2
  IsPlace p vars (variable t is_static n) = IsVariableOf p vars is_static n t
  -- 6.5.3.2 paragraph 4
  IsPlace p vars (dereference t a) = IsTarget p.structs t × (type_of a ≡ pointer t) × IsValue p vars a
  -- 6.5.2.3
  IsPlace p vars (field t first a) = IsMemberOf p (type_of a) first t × IsPlace p vars a
  IsPlace p vars _ = ⊥

  -- values of which the last has this type
  pub AreMembers : Program → List CType → CType → Exprs → Type 0
  AreMembers p vars t no_exprs = ⊥
  AreMembers p vars t (more_exprs e es) = IsValue p vars e × AreMembersAfter p vars t (type_of e) es

  -- values after one of this type
  pub AreMembersAfter : Program → List CType → CType → CType → Exprs → Type 0
  AreMembersAfter p vars t u no_exprs = u ≡ t
  AreMembersAfter p vars t u (more_exprs e es) = IsValue p vars e × AreMembersAfter p vars t (type_of e) es

  -- values of these types
  pub AreArguments : Program → List CType → CTypes → Exprs → Type 0
  AreArguments p vars no_types no_exprs = Unit {0}
  AreArguments p vars (more_types t ts) no_exprs = ⊥
  AreArguments p vars no_types (more_exprs e es) = ⊥
  AreArguments p vars (more_types t ts) (more_exprs e es) = (type_of e ≡ t) × IsValue p vars e × AreArguments p vars ts es

-- a value of scalar type
abbrev pub IsCondition : Program → List CType → Expr → Type 0
IsCondition p vars e = IsScalar (type_of e) × IsValue p vars e

-- a condition, or none
abbrev pub IsTest : Program → List CType → Maybe → Type 0
IsTest p vars absent = Unit {0}
IsTest p vars (there e) = IsCondition p vars e

-- an expression whose value is not used, or none
abbrev pub IsStep : Program → List CType → Maybe → Type 0
IsStep p vars absent = Unit {0}
IsStep p vars (there e) = IsValue p vars e

-- values for cells of these types (6.7.8)
abbrev pub AreInits : Program → List CType → List CType → Inits → Type 0
AreInits p vars ts no_inits = Unit {0}
AreInits p vars ts (more_inits cell e is) = (slice_get ts cell ≡ Some (type_of e)) × IsValue p vars e × AreInits p vars ts is

-- the declaration of one of the function's variables
abbrev pub IsDeclare : Program → List CType → ℕ → Inits → Type 0
IsDeclare p vars x is = (t : CType) × (slice_get vars x ≡ Some t) × AreInits p vars (flat p.structs t) is

-- what may stand first in the head of a for (6.8.5.3)
abbrev pub IsFirst : Program → List CType → Stmt → Type 0
IsFirst p vars (evaluate e) = IsValue p vars e
IsFirst p vars (declare x is) = IsDeclare p vars x is
IsFirst p vars _ = ⊥

abbrev pub AreFirst : Program → List CType → Stmts → Type 0
AreFirst p vars no_stmts = Unit {0}
AreFirst p vars (more_stmts s ss) = IsFirst p vars s × AreFirst p vars ss

-- a value that is compared with one of this integer type
abbrev pub IsLabel : IntType → TLabel → Type 0
IsLabel i (Case v) = IsConstant (integer i) v
IsLabel i Default = Unit {0}

-- how many of the labels are `default`
abbrev pub defaults_among : List TLabel → ℕ
defaults_among [] = 0
defaults_among (Case v ∷ ls) = defaults_among ls
defaults_among (Default ∷ ls) = 1 + defaults_among ls

abbrev pub defaults : Groups → ℕ
defaults no_groups = 0
defaults (more_groups ls ss gs) = defaults_among ls + defaults gs

abbrev mutual
  -- in a function with these variables and this result, the statement is well-typed where a break, and where a continue, has a statement to leave or to go on with
  pub IsStmt : Program → List CType → CType → Bool → Bool → Stmt → Type 0
  -- 6.8.2
  IsStmt p vars r breaks continues (block ss) = AreStmts p vars r breaks continues ss
  -- 6.8.3
  IsStmt p vars r breaks continues empty = Unit {0}
  -- 6.8.3
  IsStmt p vars r breaks continues (evaluate e) = IsValue p vars e
  -- 6.7
  IsStmt p vars r breaks continues (declare x is) = IsDeclare p vars x is
  -- 6.8.4.1
  IsStmt p vars r breaks continues (if_else e s u) =
      IsCondition p vars e × IsStmt p vars r breaks continues s × IsStmt p vars r breaks continues u
  -- 6.8.5.1
  IsStmt p vars r breaks continues (while_loop e s) = IsCondition p vars e × IsStmt p vars r true true s
  -- 6.8.5.2
  IsStmt p vars r breaks continues (do_loop s e) = IsStmt p vars r true true s × IsCondition p vars e
  -- 6.8.5.3
  IsStmt p vars r breaks continues (for_loop first test step s) =
      AreFirst p vars first × IsTest p vars test × IsStep p vars step × IsStmt p vars r true true s
  -- 6.8.4.2
  IsStmt p vars r breaks continues (switch_on e gs) =
      (i : IntType) × (type_of e ≡ integer i) × IsPromoted i × IsValue p vars e × (defaults gs ≤ 1) × AreGroups p vars r continues i gs
  -- 6.8.6.3
  IsStmt p vars r breaks continues break_off = IsTrue breaks
  -- 6.8.6.2
  IsStmt p vars r breaks continues continue_on = IsTrue continues
  -- 6.8.6.4
  IsStmt p vars r breaks continues return_void = r ≡ void
  -- 6.8.6.4
  IsStmt p vars r breaks continues (return_value e) = IsScalar r × (type_of e ≡ r) × IsValue p vars e

  pub AreStmts : Program → List CType → CType → Bool → Bool → Stmts → Type 0
  AreStmts p vars r breaks continues no_stmts = Unit {0}
  AreStmts p vars r breaks continues (more_stmts s ss) =
      IsStmt p vars r breaks continues s × AreStmts p vars r breaks continues ss

  -- labels of this integer type, and statements which a break may leave
  pub AreGroups : Program → List CType → CType → Bool → IntType → Groups → Type 0
  AreGroups p vars r continues i no_groups = Unit {0}
  AreGroups p vars r continues i (more_groups ls ss gs) =
      All (IsLabel i) ls × AreStmts p vars r true continues ss × AreGroups p vars r continues i gs
