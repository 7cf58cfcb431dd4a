-- The terms that the trees of Rust are seen as.
use Rattle.std.specs.Prelude.{ℕ, Option, Some, None, Box}
use Rattle.std.specs.Global.{Global}
use Rattle.c_syntax.specs.declared.tree.Ident.{Ident as Named}
use Rattle.c_syntax.specs.declared.tree.Spec.{Spec as Specified}
use Rattle.c_syntax.specs.declared.tree.Spec.TheVariants as s
use Rattle.c_syntax.specs.declared.tree.Expr.{Expr as Tree}
use Rattle.c_syntax.specs.declared.tree.ExprKind.{ExprKind, Row_of-Expr, end_of-Expr, more_of-Expr}
use Rattle.c_syntax.specs.declared.tree.ExprKind.{Name, Int, Char, Str, Comma', SizeofType, Cast', Call', Member', Arrow', PostInc', PostDec', PreInc', PreDec', SizeofExpr', Unary', Index', And', Or', Binary', Assign', Cond'}
use Rattle.c_syntax.specs.declared.tree.TypeName.{TypeName as TypeTree, TypeName', Held-Param-declarator, Param-declarator-None', Param-declarator-Some'}
use Rattle.c_syntax.specs.declared.tree.Param.{Param as ParamTree, Param'}
use Rattle.c_syntax.specs.declared.tree.Declarator.{Declarator as DeclaratorTree}
use Rattle.c_syntax.specs.declared.tree.DeclaratorKind.{DeclaratorKind, Pointer', Array', Function', Held-DeclaratorKind-Pointer-0, DeclaratorKind-Pointer-0-None', DeclaratorKind-Pointer-0-Some', Held-DeclaratorKind-Array-1, DeclaratorKind-Array-1-None', DeclaratorKind-Array-1-Some', Row_of-Param, end_of-Param, more_of-Param}
use Rattle.c_syntax.specs.declared.tree.DeclaratorKind.{Name as Declared}
use Rattle.c_syntax.specs.Tree.{Ident, Spec, void, char, unsigned_char, int, unsigned_int, struct, enum}
use Rattle.c_syntax.specs.Tree.{post_increment, post_decrement, pre_increment, pre_decrement, sizeof, dot, arrow, and, or, operator}
use Rattle.c_syntax.specs.Tree.{Expr, a_name, an_int, a_char, a_str, comma, sizeof_type, cast, call, member, postfix, prefix, unary, index, binary, assign, conditional}
use Rattle.c_syntax.specs.Tree.{Exprs, no_exprs, more_exprs, Maybe, absent, there, TypeName, type_name}
use Rattle.c_syntax.specs.Tree.{Declarator, nothing, named, pointer, array, function, Params, no_params, more_params}

abbrev pub ident_of : Named → Ident
ident_of x = record { name = x.name; at = x.at }

abbrev pub spec_of : Specified → Spec
spec_of s.Void = void
spec_of s.Char = char
spec_of s.Uchar = unsigned_char
spec_of s.Int = int
spec_of s.Uint = unsigned_int
spec_of (s.Struct x) = struct (ident_of x)
spec_of (s.Enum x) = enum (ident_of x)

abbrev mutual
  pub expr_at : ℕ → ExprKind → Expr
  expr_at at (Name n) = a_name at n
  expr_at at (Int v u) = an_int at v u
  expr_at at (Char c) = a_char at c
  expr_at at (Str bytes) = a_str at bytes
  expr_at at (Comma' shape row) = comma at (exprs_of_row row)
  expr_at at (SizeofType n) = sizeof_type at (type_name_of n)
  expr_at at (Cast' n p a1 k1) = cast at (type_name_of n) (expr_at a1 k1)
  expr_at at (Call' p a1 k1 shape row) = call at (expr_at a1 k1) (exprs_of_row row)
  expr_at at (Member' p a1 k1 x) = member at dot (expr_at a1 k1) (ident_of x)
  expr_at at (Arrow' p a1 k1 x) = member at arrow (expr_at a1 k1) (ident_of x)
  expr_at at (PostInc' p a1 k1) = postfix at post_increment (expr_at a1 k1)
  expr_at at (PostDec' p a1 k1) = postfix at post_decrement (expr_at a1 k1)
  expr_at at (PreInc' p a1 k1) = prefix at pre_increment (expr_at a1 k1)
  expr_at at (PreDec' p a1 k1) = prefix at pre_decrement (expr_at a1 k1)
  expr_at at (SizeofExpr' p a1 k1) = prefix at sizeof (expr_at a1 k1)
  expr_at at (Unary' op p a1 k1) = unary at op (expr_at a1 k1)
  expr_at at (Index' p a1 k1 q a2 k2) = index at (expr_at a1 k1) (expr_at a2 k2)
  expr_at at (And' p a1 k1 q a2 k2) = binary at and (expr_at a1 k1) (expr_at a2 k2)
  expr_at at (Or' p a1 k1 q a2 k2) = binary at or (expr_at a1 k1) (expr_at a2 k2)
  expr_at at (Binary' op p a1 k1 q a2 k2) = binary at (operator op) (expr_at a1 k1) (expr_at a2 k2)
  expr_at at (Assign' op p a1 k1 q a2 k2) = assign at op (expr_at a1 k1) (expr_at a2 k2)
  expr_at at (Cond' p a1 k1 q a2 k2 r a3 k3) = conditional at (expr_at a1 k1) (expr_at a2 k2) (expr_at a3 k3)

  pub exprs_of_row : {m : _} → Row_of-Expr m → Exprs
  exprs_of_row end_of-Expr = no_exprs
  exprs_of_row (more_of-Expr a1 k1 rest) = more_exprs (expr_at a1 k1) (exprs_of_row rest)

  pub type_name_of : TypeTree → TypeName
  type_name_of (TypeName' s held at) = type_name at (spec_of s) (held_declarator held)

  pub declarator_at : ℕ → DeclaratorKind → Declarator
  declarator_at at (Declared x) = named at (ident_of x)
  declarator_at at (Pointer' held) = pointer at (inner_declarator held)
  declarator_at at (Array' held size) = array at (inner_declarator held) (maybe_size size)
  declarator_at at (Function' held shape row) = function at (inner_declarator held) (params_of_row row)

  pub inner_declarator : Held-DeclaratorKind-Pointer-0 → Declarator
  inner_declarator DeclaratorKind-Pointer-0-None' = nothing
  inner_declarator (DeclaratorKind-Pointer-0-Some' p at kind) = declarator_at at kind

  pub held_declarator : Held-Param-declarator → Declarator
  held_declarator Param-declarator-None' = nothing
  held_declarator (Param-declarator-Some' at kind) = declarator_at at kind

  pub maybe_size : Held-DeclaratorKind-Array-1 → Maybe
  maybe_size DeclaratorKind-Array-1-None' = absent
  maybe_size (DeclaratorKind-Array-1-Some' p at kind) = there (expr_at at kind)

  pub params_of_row : {m : _} → Row_of-Param m → Params
  params_of_row end_of-Param = no_params
  params_of_row (more_of-Param p rest) = param_before p (params_of_row rest)

  pub param_before : ParamTree → Params → Params
  param_before (Param' s held at) rest = more_params at (spec_of s) (held_declarator held) rest

abbrev pub expr_of : Tree → Expr
expr_of e = expr_at e.at e.kind

abbrev pub expr_behind : Option (Box Tree Global) → Maybe
expr_behind None = absent
expr_behind (Some b) = there (expr_of b.value)

abbrev pub declarator_of : DeclaratorTree → Declarator
declarator_of e = declarator_at e.at e.kind
