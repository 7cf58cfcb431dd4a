-- Statements with `if`, and groups.
use Rattle.std.proofs.Common.{◌≡◌, ℕ, Option, None, Some, Vec, Global, refl, sym, ap, ◌∙◌}
use Rattle.std.specs.Prelude.{Box}
use Rattle.c_syntax.specs.declared.tree.Expr.{Expr as ExprTree}
use Rattle.c_syntax.specs.declared.tree.Stmt.{Stmt as StmtTree}
use Rattle.c_syntax.specs.declared.tree.StmtKind.TheVariants.{If}
use Rattle.c_syntax.specs.declared.tree.Group.{Group, Group', roll-Group, Row_of-Stmt, items_hidden-the_row-Stmt-2}
use Rattle.c_syntax.specs.declared.tree.Label.{Label}
use mathlib.Core.Former.{Count}
use Rattle.c_syntax.specs.Tree.{Stmt, no_block_items, block_stmt, Groups, more_groups}
use Rattle.c_syntax.specs.UnitView.{stmt_at, stmt_of, if_with, group_before, labels_of}
use Rattle.c_syntax.specs.WritesUnit.{stmts_of, else_behind}
use Rattle.c_rules.specs.Functions.{items_of_body}
use Rattle.c_syntax.proofs.NodeRows.{if_is}
use Rattle.c_syntax.proofs.UnitRows.{stmts_row}

pub is_if : (s : StmtTree) (e : Box ExprTree Global) (y : Box StmtTree Global) (o p : Option (Box StmtTree Global)) → s.kind ≡ If e y o → o ≡ p → stmt_of s ≡ if_with s.at e.value (stmt_of y.value) (else_behind p)
is_if s e y o p is same = ap (stmt_at s.at) is ∙ (if_is s.at e y o ∙ ap (λ r. if_with s.at e.value (stmt_of y.value) (else_behind r)) same)

-- a statement other than a block stands alone in a body
if_stays : (at : ℕ) (e : ExprTree) (s : Stmt) (o : Option Stmt) → items_of_body (if_with at e s o) ≡ block_stmt (if_with at e s o) no_block_items
if_stays at e s None = refl
if_stays at e s (Some r) = refl

pub if_alone : (s : StmtTree) (e : Box ExprTree Global) (y : Box StmtTree Global) (o : Option (Box StmtTree Global)) → s.kind ≡ If e y o → items_of_body (stmt_of s) ≡ block_stmt (stmt_of s) no_block_items
if_alone s e y o is =
    let told = is_if s e y o o is refl in
    ap items_of_body told ∙ (if_stays s.at e.value (stmt_of y.value) (else_behind o) ∙ sym (ap (λ x. block_stmt x no_block_items) told))

-- ## Groups that are made

abbrev row_in : Group → (n : Count) × Row_of-Stmt n
row_in (Group' labels shape row) = (_, row)

pub group_made : (labels : Vec Label Global) (body : Vec StmtTree Global) (rest : Groups) → group_before (roll-Group (record { labels = labels; body = body })) rest ≡ more_groups (labels_of labels.items) (stmts_of body.items) rest
unfolding roll-Group denote.Hole.Carrier.roll
group_made labels body rest =
    ap (λ x. more_groups (labels_of labels.items) x rest)
    (stmts_row (row_in (roll-Group (record { labels = labels; body = body }))).0 (row_in (roll-Group (record { labels = labels; body = body }))).1 ∙ ap stmts_of (items_hidden-the_row-Stmt-2 body))
