-- Lemmas that several crates above use.
use Rattle.std.proofs.Common.{refl, ◌≡◌}
use Rattle.c_tree.specs.Tree.{CType, type_of}
use Rattle.c_tree.specs.View.{ctype_of, expr_of, expr_with}
use Rattle.c_tree.specs.declared.tree.TExpr.{TExpr}
use Rattle.c_tree.specs.declared.tree.TExprKind.{Const, TExprKind}

-- the type of an expression is kept beside its form
pub type_with : (t : CType) (k : TExprKind) → type_of (expr_with t k) ≡ t
type_with t (Const v) = refl
type_with t k = refl

pub type_is : (e : TExpr) → type_of (expr_of e) ≡ ctype_of e.ctype
type_is e = type_with (ctype_of e.ctype) e.kind
