-- Lists of trees that a statement holds, as it is seen.
use Rattle.std.proofs.Common.{◌≡◌, Vec, Global, ap, ◌∙◌}
use mathlib.Core.Former.{Count}
use Rattle.c_syntax.specs.declared.tree.Stmt.{Stmt as StmtTree}
use Rattle.c_syntax.specs.declared.tree.Label.{Label}
use Rattle.c_syntax.specs.declared.tree.Group.{Group, Group', roll-Group, Row_of-Stmt, items_hidden-the_row-Stmt-2}
use Rattle.c_syntax.specs.Tree.{more_groups, Groups}
use Rattle.c_syntax.specs.UnitView.{group_before, labels_of}
use Rattle.c_syntax.specs.WritesUnit.{stmts_of}
use Rattle.c_syntax.proofs.UnitRows.{stmts_row}

abbrev stmts_row_in : Group → (n : Count) × Row_of-Stmt n
stmts_row_in (Group' labels shape row) = (_, row)

-- the group that is made of labels and statements
pub group_made : (labels : Vec Label Global) (body : Vec StmtTree Global) (rest : Groups) → group_before (roll-Group (record { labels = labels; body = body })) rest ≡ more_groups (labels_of labels.items) (stmts_of body.items) rest
unfolding roll-Group denote.Hole.Carrier.roll
group_made labels body rest =
    ap (λ x. more_groups (labels_of labels.items) x rest)
    (stmts_row (stmts_row_in (roll-Group (record { labels = labels; body = body }))).0 (stmts_row_in (roll-Group (record { labels = labels; body = body }))).1 ∙ ap stmts_of (items_hidden-the_row-Stmt-2 body))
