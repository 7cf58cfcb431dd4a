-- What the trees of Rust that hold lists are seen as.
use Rattle.std.proofs.Common.{◌≡◌, ℕ, List, Option, Vec, Global, refl, ap, sym, ◌∙◌}
use Rattle.std.specs.Prelude.{Box}
use mathlib.Core.Former.{Count}
use Rattle.c_tree.specs.declared.tree.CType.{CType as TypeTree, Function', Row_of-CType, end_of-CType, more_of-CType, items-the_row-CType, items_hidden-the_row-CType-0}
use Rattle.c_tree.specs.declared.tree.CType.TheVariants.{Function}
use Rattle.c_tree.specs.declared.tree.TExpr.{TExpr}
use Rattle.c_tree.specs.declared.tree.TExprKind.{TExprKind, Comma', Row_of-TExpr, end_of-TExpr, more_of-TExpr, items-the_row-TExpr, items_hidden-the_row-TExpr-0}
use Rattle.c_tree.specs.declared.tree.TExprKind.TheVariants.{Comma, Call, CallThrough}
use Rattle.c_tree.specs.declared.tree.TStmt.{TStmt, Block', Switch', Row_of-TStmt, end_of-TStmt, more_of-TStmt, items-the_row-TStmt, items_hidden-the_row-TStmt-0, items_shown-the_row-TStmt-0, Row_of-TGroup, end_of-TGroup, more_of-TGroup, items-the_row-TGroup, items_hidden-the_row-TGroup-1}
use Rattle.c_tree.specs.declared.tree.TStmt.TheVariants.{Block, For, Switch}
use Rattle.c_tree.specs.declared.tree.TGroup.{TGroup}
use Rattle.c_tree.specs.declared.tree.TLabel.{TLabel}
use Rattle.c_tree.specs.Tree.{CType, function, more_types, comma, call, call_through, more_exprs, block, for_loop, switch_on, Stmts, more_stmts, Groups, more_groups}
use Rattle.c_tree.specs.View.{ctype_of, ctypes_of_row, types_of, expr_of, expr_with, exprs_of_row, exprs_of, maybe_of, stmt_of, stmts_of_row, stmts_of, groups_of_row, groups_of}

types_row : (n : _) (row : Row_of-CType n) → ctypes_of_row row ≡ types_of (items-the_row-CType n row)
types_row n end_of-CType = refl
types_row n (more_of-CType t rest) = ap (more_types (ctype_of t)) (types_row _ rest)

abbrev type_row_in : TypeTree → (n : Count) × Row_of-CType n
type_row_in (Function' p t shape row) = (_, row)
type_row_in _ = (_, end_of-CType)

-- a function's parameters
pub function_is : (r : Box TypeTree Global) (v : Vec TypeTree Global) → ctype_of (Function r v) ≡ function (ctype_of r.value) (types_of v.items)
function_is r v =
    ap (function (ctype_of r.value)) (types_row (type_row_in (Function r v)).0 (type_row_in (Function r v)).1 ∙ ap types_of (items_hidden-the_row-CType-0 v))

exprs_row : (n : _) (row : Row_of-TExpr n) → exprs_of_row row ≡ exprs_of (items-the_row-TExpr n row)
exprs_row n end_of-TExpr = refl
exprs_row n (more_of-TExpr t kind rest) = ap (more_exprs (expr_with (ctype_of t) kind)) (exprs_row _ rest)

abbrev row_in : TExprKind → (n : Count) × Row_of-TExpr n
row_in (Comma' shape row) = (_, row)
row_in _ = (_, end_of-TExpr)

exprs_in : (v : Vec TExpr Global) → exprs_of_row (row_in (Comma v)).1 ≡ exprs_of v.items
exprs_in v = exprs_row (row_in (Comma v)).0 (row_in (Comma v)).1 ∙ ap exprs_of (items_hidden-the_row-TExpr-0 v)

-- the members of a comma expression
pub comma_is : (t : CType) (v : Vec TExpr Global) → expr_with t (Comma v) ≡ comma t (exprs_of v.items)
comma_is t v = ap (comma t) (exprs_in v)

-- the arguments of a call
pub call_is : (t : CType) (site f : ℕ) (v : Vec TExpr Global) → expr_with t (Call site f v) ≡ call t site f (exprs_of v.items)
call_is t site f v = ap (call t site f) (exprs_in v)

pub call_through_is : (t : CType) (site : ℕ) (d : Box TExpr Global) (v : Vec TExpr Global) → expr_with t (CallThrough site d v) ≡ call_through t site (expr_of d.value) (exprs_of v.items)
call_through_is t site d v = ap (call_through t site (expr_of d.value)) (exprs_in v)

stmts_row : (n : _) (row : Row_of-TStmt n) → stmts_of_row row ≡ stmts_of (items-the_row-TStmt n row)
stmts_row n end_of-TStmt = refl
stmts_row n (more_of-TStmt s rest) = ap (more_stmts (stmt_of s)) (stmts_row _ rest)

abbrev stmt_row_in : TStmt → (n : Count) × Row_of-TStmt n
stmt_row_in (Block' shape row) = (_, row)
stmt_row_in _ = (_, end_of-TStmt)

stmts_in : (v : Vec TStmt Global) → stmts_of_row (stmt_row_in (Block v)).1 ≡ stmts_of v.items
stmts_in v = stmts_row (stmt_row_in (Block v)).0 (stmt_row_in (Block v)).1 ∙ ap stmts_of (items_hidden-the_row-TStmt-0 v)

-- the statements of a block
pub block_is : (v : Vec TStmt Global) → stmt_of (Block v) ≡ block (stmts_of v.items)
block_is v = ap block (stmts_in v)

-- the head of a for
pub for_is : (v : Vec TStmt Global) (test step : Option (Box TExpr Global)) (s : Box TStmt Global) → stmt_of (For v test step s) ≡ for_loop (stmts_of v.items) (maybe_of test) (maybe_of step) (stmt_of s.value)
for_is v test step s = ap (λ first. for_loop first (maybe_of test) (maybe_of step) (stmt_of s.value)) (stmts_in v)

same_groups : (labels : List TLabel) (x y : Stmts) (u v : Groups) → x ≡ y → u ≡ v → more_groups labels x u ≡ more_groups labels y v
same_groups labels x y u v p q = ap (λ z. more_groups labels z u) p ∙ ap (more_groups labels y) q

groups_row : (n : _) (row : Row_of-TGroup n) → groups_of_row row ≡ groups_of (items-the_row-TGroup n row)
groups_row n end_of-TGroup = refl
groups_row n (more_of-TGroup labels shape row rest) =
    same_groups labels.items _ _ _ _ (stmts_row _ row ∙ sym (ap stmts_of (items_shown-the_row-TStmt-0 shape row))) (groups_row _ rest)

abbrev group_row_in : TStmt → (n : Count) × Row_of-TGroup n
group_row_in (Switch' e shape row) = (_, row)
group_row_in _ = (_, end_of-TGroup)

-- the groups of a switch
pub switch_is : (e : Box TExpr Global) (v : Vec TGroup Global) → stmt_of (Switch e v) ≡ switch_on (expr_of e.value) (groups_of v.items)
switch_is e v =
    ap (switch_on (expr_of e.value)) (groups_row (group_row_in (Switch e v)).0 (group_row_in (Switch e v)).1 ∙ ap groups_of (items_hidden-the_row-TGroup-1 v))
