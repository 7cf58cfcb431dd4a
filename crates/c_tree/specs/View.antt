-- The terms that typed trees of Rust are seen as.
use Rattle.std.specs.Prelude.{ℕ, List, [], ◌∷◌, map, Option, Some, None, Box}
use Rattle.std.specs.Global.{Global}
use Rattle.c_tree.specs.declared.tree.CType.{CType as TypeTree, Void, Int, Pointer', Array', Struct, Function', Row_of-CType, end_of-CType, more_of-CType}
use Rattle.c_tree.specs.declared.tree.TExpr.{TExpr}
use Rattle.c_tree.specs.declared.tree.TExprKind.{TExprKind, Const, StringPlace, Variable, Deref', Load', AddressOf', Decay', Discard', Field', Unary', Convert', Arith', Compare', PointerAdd', PointerDiff', And', Or', Assign', Update', Cond', Comma', Call', CallThrough', Row_of-TExpr, end_of-TExpr, more_of-TExpr}
use Rattle.c_tree.specs.declared.tree.TExprKind.{Function as FunctionNamed}
use Rattle.c_tree.specs.declared.tree.TInit.{TInit}
use Rattle.c_tree.specs.declared.tree.TStmt.{TStmt, Block', Empty, Declare, If', While', Do', For', Switch', Break, Continue, Return, Row_of-TStmt, end_of-TStmt, more_of-TStmt, Held-TStmt-If-2, None', Some', Row_of-TGroup, end_of-TGroup, more_of-TGroup}
use Rattle.c_tree.specs.declared.tree.TStmt.{Expr as Evaluated}
use Rattle.c_tree.specs.declared.tree.TGroup.{TGroup}
use Rattle.c_tree.specs.declared.tree.Function.{Function as FunctionTree}
use Rattle.c_tree.specs.declared.tree.Static.{Static as StaticTree}
use Rattle.c_tree.specs.declared.tree.StructMembers.{StructMembers}
use Rattle.c_tree.specs.declared.tree.StructMembers.TheVariants.{Undefined, Defined}
use Rattle.c_tree.specs.Tree.{CType, void, integer, pointer, array, struct, function, CTypes, no_types, more_types}
use Rattle.c_tree.specs.Tree.{Expr, constant, function_name, string_place, variable, dereference, load, address_of, decay, discard, field, unary_operation, conversion, arithmetic, comparison, pointer_add, pointer_diff, and, or, assign, update, conditional, comma, call, call_through}
use Rattle.c_tree.specs.Tree.{Exprs, no_exprs, more_exprs, Maybe, absent, there, Inits, no_inits, more_inits}
use Rattle.c_tree.specs.Tree.{Stmt, block, empty, evaluate, declare, if_else, while_loop, do_loop, for_loop, switch_on, break_off, continue_on, return_void, return_value, Stmts, no_stmts, more_stmts, Groups, no_groups, more_groups}
use Rattle.c_tree.specs.Tree.{Function, Static, Program}

abbrev mutual
  pub ctype_of : TypeTree → CType
  ctype_of Void = void
  ctype_of (Int i) = integer i
  ctype_of (Pointer' p t) = pointer (ctype_of t)
  ctype_of (Array' p t n) = array (ctype_of t) n
  ctype_of (Struct s) = struct s
  ctype_of (Function' p t shape row) = function (ctype_of t) (ctypes_of_row row)

  pub ctypes_of_row : {m : _} → Row_of-CType m → CTypes
  ctypes_of_row end_of-CType = no_types
  ctypes_of_row (more_of-CType t rest) = more_types (ctype_of t) (ctypes_of_row rest)

abbrev mutual
  pub expr_with : CType → TExprKind → Expr
  expr_with t (Const v) = constant t v
  expr_with t (FunctionNamed f) = function_name t f
  expr_with t (StringPlace n) = string_place t n
  expr_with t (Variable s n) = variable t s n
  expr_with t (Deref' p t1 k1) = dereference t (expr_with (ctype_of t1) k1)
  expr_with t (Load' p t1 k1) = load t (expr_with (ctype_of t1) k1)
  expr_with t (AddressOf' p t1 k1) = address_of t (expr_with (ctype_of t1) k1)
  expr_with t (Decay' p t1 k1) = decay t (expr_with (ctype_of t1) k1)
  expr_with t (Discard' p t1 k1) = discard t (expr_with (ctype_of t1) k1)
  expr_with t (Field' p t1 k1 first) = field t first (expr_with (ctype_of t1) k1)
  expr_with t (Unary' op p t1 k1) = unary_operation t op (expr_with (ctype_of t1) k1)
  expr_with t (Convert' to p t1 k1) = conversion t to (expr_with (ctype_of t1) k1)
  expr_with t (Arith' op p t1 k1 q t2 k2) = arithmetic t op (expr_with (ctype_of t1) k1) (expr_with (ctype_of t2) k2)
  expr_with t (Compare' op p t1 k1 q t2 k2) = comparison t op (expr_with (ctype_of t1) k1) (expr_with (ctype_of t2) k2)
  expr_with t (PointerAdd' f s p t1 k1 q t2 k2) = pointer_add t f s (expr_with (ctype_of t1) k1) (expr_with (ctype_of t2) k2)
  expr_with t (PointerDiff' p t1 k1 q t2 k2) = pointer_diff t (expr_with (ctype_of t1) k1) (expr_with (ctype_of t2) k2)
  expr_with t (And' p t1 k1 q t2 k2) = and t (expr_with (ctype_of t1) k1) (expr_with (ctype_of t2) k2)
  expr_with t (Or' p t1 k1 q t2 k2) = or t (expr_with (ctype_of t1) k1) (expr_with (ctype_of t2) k2)
  expr_with t (Assign' p t1 k1 q t2 k2) = assign t (expr_with (ctype_of t1) k1) (expr_with (ctype_of t2) k2)
  expr_with t (Update' op o p t1 k1 q t2 k2) = update t op o (expr_with (ctype_of t1) k1) (expr_with (ctype_of t2) k2)
  expr_with t (Cond' p t1 k1 q t2 k2 r t3 k3) = conditional t (expr_with (ctype_of t1) k1) (expr_with (ctype_of t2) k2) (expr_with (ctype_of t3) k3)
  expr_with t (Comma' shape row) = comma t (exprs_of_row row)
  expr_with t (Call' s f shape row) = call t s f (exprs_of_row row)
  expr_with t (CallThrough' s p t1 k1 shape row) = call_through t s (expr_with (ctype_of t1) k1) (exprs_of_row row)

  pub exprs_of_row : {m : _} → Row_of-TExpr m → Exprs
  exprs_of_row end_of-TExpr = no_exprs
  exprs_of_row (more_of-TExpr t1 k1 rest) = more_exprs (expr_with (ctype_of t1) k1) (exprs_of_row rest)

abbrev pub expr_of : TExpr → Expr
expr_of e = expr_with (ctype_of e.ctype) e.kind

abbrev pub maybe_of : Option (Box TExpr Global) → Maybe
maybe_of None = absent
maybe_of (Some e) = there (expr_of e.value)

abbrev pub inits_of : List TInit → Inits
inits_of [] = no_inits
inits_of (x ∷ xs) = more_inits x.cell (expr_of x.value) (inits_of xs)

-- `return` without or with a value
abbrev pub return_of : Option (Box TExpr Global) → Stmt
return_of None = return_void
return_of (Some e) = return_value (expr_of e.value)

abbrev mutual
  pub stmt_of : TStmt → Stmt
  stmt_of (Block' shape row) = block (stmts_of_row row)
  stmt_of Empty = empty
  stmt_of (Evaluated e) = evaluate (expr_of e.value)
  stmt_of (Declare x is) = declare x (inits_of is.items)
  stmt_of (If' e p s held) = if_else (expr_of e.value) (stmt_of s) (else_of held)
  stmt_of (While' e p s) = while_loop (expr_of e.value) (stmt_of s)
  stmt_of (Do' p s e) = do_loop (stmt_of s) (expr_of e.value)
  stmt_of (For' shape row test step p s) = for_loop (stmts_of_row row) (maybe_of test) (maybe_of step) (stmt_of s)
  stmt_of (Switch' e shape row) = switch_on (expr_of e.value) (groups_of_row row)
  stmt_of Break = break_off
  stmt_of Continue = continue_on
  stmt_of (Return e) = return_of e

  -- the empty statement where there is no else
  pub else_of : Held-TStmt-If-2 → Stmt
  else_of None' = empty
  else_of (Some' p s) = stmt_of s

  pub stmts_of_row : {m : _} → Row_of-TStmt m → Stmts
  stmts_of_row end_of-TStmt = no_stmts
  stmts_of_row (more_of-TStmt s rest) = more_stmts (stmt_of s) (stmts_of_row rest)

  pub groups_of_row : {m : _} → Row_of-TGroup m → Groups
  groups_of_row end_of-TGroup = no_groups
  groups_of_row (more_of-TGroup labels shape row rest) = more_groups labels.items (stmts_of_row row) (groups_of_row rest)

-- lists of trees as terms
abbrev pub types_of : List TypeTree → CTypes
types_of [] = no_types
types_of (t ∷ ts) = more_types (ctype_of t) (types_of ts)

abbrev pub exprs_of : List TExpr → Exprs
exprs_of [] = no_exprs
exprs_of (e ∷ es) = more_exprs (expr_of e) (exprs_of es)

abbrev pub stmts_of : List TStmt → Stmts
stmts_of [] = no_stmts
stmts_of (s ∷ ss) = more_stmts (stmt_of s) (stmts_of ss)

abbrev pub groups_of : List TGroup → Groups
groups_of [] = no_groups
groups_of (g ∷ gs) = more_groups g.labels.items (stmts_of g.body.items) (groups_of gs)

abbrev pub ctypes_of : List TypeTree → List CType
ctypes_of ts = map ctype_of ts

abbrev pub function_of : FunctionTree → Function
function_of f = record { name = f.name; ctype = ctype_of f.ctype; variables = ctypes_of f.variables.items; body = stmt_of f.body }

abbrev pub static_of : StaticTree → Static
static_of s = record { ctype = ctype_of s.ctype; cells = s.cells.items; string = s.string }

-- the members' types of a struct, where it has a definition
abbrev pub members_in : StructMembers → Option (List CType)
members_in Undefined = None
members_in (Defined ts) = Some (ctypes_of ts.items)

-- the parts of a program of Rust
pub record Parts : Type 0 where
  pub structs : List StructMembers
  pub functions : List FunctionTree
  pub main : ℕ
  pub statics : List StaticTree

-- the term that a program of Rust is seen as
abbrev pub program_of : Parts → Program
program_of p =
    record { structs = map members_in p.structs; functions = map function_of p.functions; main = p.main; statics = map static_of p.statics }
