-- The tree behind a box is the one whose tokens were written or counted.
use Rattle.std.proofs.Common.{◌≡◌, ℕ, List, OnOk, subst}
use Rattle.std.specs.Prelude.{Result}
use Rattle.c_syntax.specs.declared.tree.Expr.{Expr as Tree}
use Rattle.c_syntax.specs.declared.tree.Stmt.{Stmt as StmtTree}
use Rattle.c_syntax.specs.Tree.{Expr}
use Rattle.c_syntax.specs.View.{expr_of}
use Rattle.c_syntax.specs.UnitView.{stmt_of}
use Rattle.c_syntax.specs.Print.{Kinds, stmt_kinds}
use Rattle.c_syntax.specs.Writes.{Writes}
use Rattle.c_syntax_printing.specs.Counted.{Counts}

pub tree_written : {a b : List ℕ} (f : Expr → Kinds → Kinds) (x y : Tree) → x ≡ y → Writes a b (f (expr_of x)) → Writes a b (f (expr_of y))
tree_written {a = a} {b = b} f x y e = subst (λ z. Writes a b (f (expr_of z))) e

pub tree_last : {T E : Type 0} (r : Result T E) (a b : List ℕ) (f : Expr → Kinds → Kinds) (x y : Tree) → x ≡ y → OnOk r (Writes a b (f (expr_of x))) → OnOk r (Writes a b (f (expr_of y)))
tree_last r a b f x y e = subst (λ z. OnOk r (Writes a b (f (expr_of z)))) e

pub tree_counted : {a b : ℕ} (f : Expr → Kinds → Kinds) (x y : Tree) → x ≡ y → Counts a (f (expr_of x)) b → Counts a (f (expr_of y)) b
tree_counted {a = a} {b = b} f x y e = subst (λ z. Counts a (f (expr_of z)) b) e

pub stmt_written : {a b : List ℕ} (x y : StmtTree) → x ≡ y → Writes a b (stmt_kinds (stmt_of x)) → Writes a b (stmt_kinds (stmt_of y))
stmt_written {a = a} {b = b} x y e = subst (λ z. Writes a b (stmt_kinds (stmt_of z))) e

pub stmt_last : {T E : Type 0} (r : Result T E) (a b : List ℕ) (x y : StmtTree) → x ≡ y → OnOk r (Writes a b (stmt_kinds (stmt_of x))) → OnOk r (Writes a b (stmt_kinds (stmt_of y)))
stmt_last r a b x y e = subst (λ z. OnOk r (Writes a b (stmt_kinds (stmt_of z)))) e

pub stmt_counted : {a b : ℕ} (x y : StmtTree) → x ≡ y → Counts a (stmt_kinds (stmt_of x)) b → Counts a (stmt_kinds (stmt_of y)) b
stmt_counted {a = a} {b = b} x y e = subst (λ z. Counts a (stmt_kinds (stmt_of z)) b) e
