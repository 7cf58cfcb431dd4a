-- For private contracts and proofs alone: single labels, items and groups of lists.
use Rattle.std.specs.Prelude.{List, Vec}
use Rattle.std.specs.Global.{Global}
use Rattle.c_rules.specs.Blocks.{StatementTree, after_decl, after_stmt, alone, behind_decl, local_decl}
use Rattle.c_rules.specs.Checked.{Checked, fine, on, gives}
use Rattle.c_rules.specs.Constants.{number_of}
use Rattle.c_rules.specs.Counts.{place_of}
use Rattle.c_rules.specs.Declarators.{constant_value}
use Rattle.c_rules.specs.Expressions.{folded_value}
use Rattle.c_rules.specs.Scopes.{Before, Env}
use Rattle.c_rules.specs.Statements.{Around, stmt}
use Rattle.c_rules.specs.Variables.{Next}
use Rattle.c_syntax.specs.declared.tree.BlockItem.{BlockItem, Declaration, Statement'}
use Rattle.c_syntax.specs.declared.tree.Group.{Group, out-Group}
use Rattle.c_syntax.specs.declared.tree.LabelKind.{LabelKind}
use Rattle.c_syntax.specs.declared.tree.LabelKind.TheVariants as kinds
use Rattle.c_syntax.specs.Tree.{Labels, Stmts}
use Rattle.c_syntax.specs.UnitView.{decl_of, labels_of, stmt_at}
use Rattle.c_syntax.specs.View.{expr_of}
use Rattle.c_syntax.specs.WritesUnit.{stmts_of}
use Rattle.c_tree.specs.declared.tree.TLabel.{TLabel}
use Rattle.c_tree.specs.declared.tree.TLabel.TheVariants.{Case, Default}
use Rattle.c_tree.specs.declared.value.IntType.{IntType}
use Rattle.c_tree.specs.Operators.{value_of}
use Rattle.c_tree.specs.Tree as typed

abbrev pub items_of_labels : Vec TLabel Global → List TLabel
items_of_labels v = v.items

abbrev pub label_alone : Env → IntType → LabelKind → Checked TLabel
label_alone env i (kinds.Case e) = on (on (folded_value env (expr_of e)) (constant_value (place_of (expr_of e)))) (λ v. fine (Case (value_of i (number_of v))))
label_alone env i kinds.Default = fine Default

-- one declaration or statement of a block
abbrev pub item_alone : Env → Around → Before → Next → BlockItem → Checked (StatementTree typed.Stmts)
item_alone env a b next (Declaration d) = local_decl env b next (decl_of d)
item_alone env a b next (Statement' at kind) = gives (stmt env a b next (stmt_at at kind)) alone

abbrev pub behind_item : Env → Next → BlockItem → Env
behind_item env next (Declaration d) = behind_decl env next (decl_of d)
behind_item env next (Statement' at kind) = env

abbrev pub after_item : Env → Before → Next → BlockItem → Before
after_item env b next (Declaration d) = after_decl env b next (decl_of d)
after_item env b next (Statement' at kind) = after_stmt env b next (stmt_at at kind)

-- the labels and the statements of a group
abbrev pub labels_in : Group → Labels
labels_in g = labels_of (out-Group g).labels.items

abbrev pub stmts_in : Group → Stmts
stmts_in g = stmts_of (out-Group g).body.items
