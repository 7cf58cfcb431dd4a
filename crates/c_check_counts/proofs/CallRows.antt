-- What the trees of Rust that hold lists are seen as.
use Rattle.std.proofs.Common.{◌≡◌, ap, sym, ◌∙◌}
use Rattle.c_syntax.specs.declared.tree.Group.{Group, Group', out-Group, items_shown-the_row-Stmt-2}
use Rattle.c_syntax.specs.Tree.{Groups, more_groups}
use Rattle.c_syntax.specs.UnitView.{group_before, labels_of}
use Rattle.c_syntax.specs.WritesUnit.{stmts_of}
use Rattle.c_syntax.proofs.UnitRows.{stmts_row}
pub use Rattle.c_syntax.proofs.FormRows.{comma_is, call_is, list_is, block_is, switch_is}

-- ## Expressions

-- ## Initialisers

-- ## Statements

pub group_is : (g : Group) (rest : Groups) → group_before g rest ≡ more_groups (labels_of (out-Group g).labels.items) (stmts_of (out-Group g).body.items) rest
unfolding out-Group denote.Hole.Carrier.out
group_is (Group' labels shape row) rest = ap (λ ss. more_groups (labels_of labels.items) ss rest) (stmts_row _ row ∙ sym (ap stmts_of (items_shown-the_row-Stmt-2 shape row)))
