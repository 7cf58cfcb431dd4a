-- Lemmas that several crates above use.
use Rattle.std.proofs.Common.{Global, Vec, ap, ℕ, ◌≡◌}
use Rattle.std.specs.Prelude.{Box}
use Rattle.c_syntax.proofs.Rows.{exprs_in}
use Rattle.c_syntax.proofs.UnitRows.{block_items_in, groups_in, inits_in}
use Rattle.c_syntax.specs.Tree.{block, call, comma, list, switch_on}
use Rattle.c_syntax.specs.UnitView.{init_at, stmt_at}
use Rattle.c_syntax.specs.View.{expr_at, expr_of}
use Rattle.c_syntax.specs.Writes.{exprs_of}
use Rattle.c_syntax.specs.WritesUnit.{block_items_of, groups_of, inits_of}
use Rattle.c_syntax.specs.declared.tree.BlockItem.{BlockItem}
use Rattle.c_syntax.specs.declared.tree.Expr.{Expr as ExprTree}
use Rattle.c_syntax.specs.declared.tree.ExprKind.TheVariants.{Call, Comma}
use Rattle.c_syntax.specs.declared.tree.Group.{Group}
use Rattle.c_syntax.specs.declared.tree.Init.{Init as InitTree}
use Rattle.c_syntax.specs.declared.tree.InitKind.TheVariants.{List as listed}
use Rattle.c_syntax.specs.declared.tree.StmtKind.TheVariants.{Block, Switch}

pub comma_is : (at : ℕ) (v : Vec ExprTree Global) → expr_at at (Comma v) ≡ comma at (exprs_of v.items)
comma_is at v = ap (comma at) (exprs_in v)

pub call_is : (at : ℕ) (d : Box ExprTree Global) (v : Vec ExprTree Global) → expr_at at (Call d v) ≡ call at (expr_of d.value) (exprs_of v.items)
call_is at d v = ap (call at (expr_of d.value)) (exprs_in v)

pub list_is : (at : ℕ) (v : Vec InitTree Global) → init_at at (listed v) ≡ list at (inits_of v.items)
list_is at v = ap (list at) (inits_in v)

pub block_is : (at : ℕ) (v : Vec BlockItem Global) → stmt_at at (Block v) ≡ block at (block_items_of v.items)
block_is at v = ap (block at) (block_items_in v)

pub switch_is : (at : ℕ) (e : Box ExprTree Global) (v : Vec Group Global) → stmt_at at (Switch e v) ≡ switch_on at (expr_of e.value) (groups_of v.items)
switch_is at e v = ap (switch_on at (expr_of e.value)) (groups_in e v)
