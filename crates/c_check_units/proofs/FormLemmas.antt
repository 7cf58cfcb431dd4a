-- Places of declarators and of expressions.
use Rattle.std.proofs.Common.{◌≡◌, ℕ, refl}
use Rattle.c_syntax.specs.declared.tree.DeclaratorKind.{DeclaratorKind, Name, Pointer', Array', Function'}
use Rattle.c_syntax.specs.declared.tree.ExprKind as e
use Rattle.c_syntax.specs.declared.tree.ExprKind.{ExprKind}
use Rattle.c_syntax.specs.View.{declarator_at, expr_at}
use Rattle.c_rules.specs.Counts.{place_of}
use Rattle.c_rules.specs.Declarators.{place_or}

pub declarator_place : (at here : ℕ) (k : DeclaratorKind) → here ≡ place_or at (declarator_at here k)
declarator_place at here (Name x) = refl
declarator_place at here k = refl

pub expression_place : (at : ℕ) (k : ExprKind) → at ≡ place_of (expr_at at k)
expression_place at (e.Name n) = refl
expression_place at k = refl
