-- What a node with lists, boxes or optional parts in it holds.
use Rattle.std.proofs.Common.{◌≡◌, ◌⊎◌, inl, inr, [], ◌++◌, Option, Some, None, Vec, Global, ap, ◌∙◌, append-nil}
use Rattle.std.specs.Prelude.{Box}
use Rattle.c_syntax.specs.declared.tree.Expr.{Expr as ExprTree}
use Rattle.c_syntax.specs.declared.tree.BlockItem.{BlockItem}
use Rattle.c_syntax.specs.declared.tree.Stmt.{Stmt as StmtTree}
use Rattle.c_syntax.specs.declared.tree.StmtKind.{StmtKind}
use Rattle.c_syntax.specs.declared.tree.StmtKind.TheVariants.{Block, Empty, Expr, If, While, Do, Switch, Break, Continue, Return}
use Rattle.c_syntax.specs.declared.tree.Group.{Group, out-Group}
use Rattle.c_syntax.specs.Tree.{no_groups}
use Rattle.c_syntax.specs.UnitView.{stmt_at, stmt_of}
use Rattle.c_syntax.specs.WritesUnit.{block_items_of, stmts_of, groups_of}
use Rattle.c_check_scopes.specs.Variables.{names_of_stmt, names_of_block, names_of_stmts, names_of_groups}
use Rattle.c_check_counts.specs.Named.{names_of_group}
use Rattle.c_syntax.proofs.NodeRows.{block_is, switch_is, group_is}

-- ## Names of variables

pub names_in_kind : (s : StmtTree) (k : StmtKind) → s.kind ≡ k → names_of_stmt (stmt_of s) ≡ names_of_stmt (stmt_at s.at k)
names_in_kind s k is = ap (λ kind. names_of_stmt (stmt_at s.at kind)) is

-- The forms without statements in them.
pub names_in_none : (s : StmtTree)
    → (s.kind ≡ Empty) ⊎ (((e : Box ExprTree Global) × (s.kind ≡ Expr e)) ⊎ ((s.kind ≡ Break) ⊎ ((s.kind ≡ Continue) ⊎ ((e : Option (Box ExprTree Global)) × (s.kind ≡ Return e)))))
    → names_of_stmt (stmt_of s) ≡ []
names_in_none s (inl is) = names_in_kind s Empty is
names_in_none s (inr (inl h)) = names_in_kind s (Expr h.0) h.1
names_in_none s (inr (inr (inl is))) = names_in_kind s Break is
names_in_none s (inr (inr (inr (inl is)))) = names_in_kind s Continue is
names_in_none s (inr (inr (inr (inr h)))) = names_in_kind s (Return h.0) h.1

pub names_in_loop : (s : StmtTree) (b : Box StmtTree Global)
    → ((e : Box ExprTree Global) × (s.kind ≡ While e b)) ⊎ ((e : Box ExprTree Global) × (s.kind ≡ Do b e))
    → names_of_stmt (stmt_of s) ≡ names_of_stmt (stmt_of b.value)
names_in_loop s b (inl h) = names_in_kind s (While h.0 b) h.1
names_in_loop s b (inr h) = names_in_kind s (Do b h.0) h.1

pub names_in_if_none : (s : StmtTree) (e : Box ExprTree Global) (y : Box StmtTree Global) (o : Option (Box StmtTree Global)) → s.kind ≡ If e y o → o ≡ None → names_of_stmt (stmt_of s) ≡ names_of_stmt (stmt_of y.value)
names_in_if_none s e y o is none = names_in_kind s (If e y None) (is ∙ ap (If e y) none)

pub names_in_if_some : (s : StmtTree) (e : Box ExprTree Global) (y b : Box StmtTree Global) (o : Option (Box StmtTree Global)) → s.kind ≡ If e y o → o ≡ Some b → names_of_stmt (stmt_of s) ≡ names_of_stmt (stmt_of y.value) ++ names_of_stmt (stmt_of b.value)
names_in_if_some s e y b o is some = names_in_kind s (If e y (Some b)) (is ∙ ap (If e y) some)

pub names_in_block : (s : StmtTree) (v : Vec BlockItem Global) → s.kind ≡ Block v → names_of_stmt (stmt_of s) ≡ names_of_block (block_items_of v.items)
names_in_block s v is = ap (λ k. names_of_stmt (stmt_at s.at k)) is ∙ ap names_of_stmt (block_is s.at v)

pub names_in_switch : (s : StmtTree) (e : Box ExprTree Global) (v : Vec Group Global) → s.kind ≡ Switch e v → names_of_stmt (stmt_of s) ≡ names_of_groups (groups_of v.items)
names_in_switch s e v is = ap (λ k. names_of_stmt (stmt_at s.at k)) is ∙ ap names_of_stmt (switch_is s.at e v)

pub names_in_group : (g : Group) → names_of_group g ≡ names_of_stmts (stmts_of (out-Group g).body.items)
names_in_group g = ap names_of_groups (group_is g no_groups) ∙ append-nil (names_of_stmts (stmts_of (out-Group g).body.items))

-- ## Declarators
