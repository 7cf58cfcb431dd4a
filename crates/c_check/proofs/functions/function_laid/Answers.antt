use Rattle.std.proofs.Common.{List, ◌++◌, ◌∙◌}
use Rattle.std.specs.Prelude.{nat_le}
use Rattle.c_check_globals.proofs.Moves.{same_judged}
use Rattle.c_check_statements.specs.StatementTreeView.{statement_trees_of}
use Rattle.c_rules.specs.Checked.{Checked, demand}
use Rattle.c_rules.specs.Functions.{function_laid}
use Rattle.c_rules.specs.Limits.{most_local_cells}
use Rattle.c_rules.specs.Scopes.{layout_of}
use Rattle.c_check_statements.specs.View.{env_of}
use Rattle.c_syntax.specs.View.{ident_of}
use Rattle.c_tree.specs.declared.tree.TStmt.{TStmt}
use Rattle.c_tree.specs.Layout.{cells_of_all}
use Rattle.c_tree.specs.Tree.{CType, Function, block, list_of}
use Rattle.c_tree.specs.View.{ctype_of, ctypes_of, function_of, stmts_of, types_of}
use Rattle.c_check.proofs.functions.function_laid.Goals as goal

pub returns : goal.returns
returns c =
    let env = env_of c.args.env.now in
    let made : CType → List CType → List TStmt → Checked Function = λ t vs ts. demand (nat_le (cells_of_all (layout_of env) vs) (most_local_cells env.whole.mode)) 13 c.args.x.now.at (record { name = c.args.x.now.name; ctype = t; variables = vs; body = block (stmts_of ts) }) in
    same_judged function_of c.function_with.result (made (ctype_of c.in_ok-ctype.ctype) (ctypes_of c.in_ok-variables.variables.items) c.into_parts-trees.result.0.items) (function_laid env (ident_of c.args.x.now) (ctype_of c.args.returns.now) (types_of c.args.types.now) (statement_trees_of c.args.laid))
    (λ i. made (c.in_ok-ctype.ensures i) ((c.in_ok-variables.ensures ∙ (λ j. list_of (types_of c.args.types.now) ++ (ctypes_of (c.into_parts-trees.ensures.variables j).plain.items ++ ctypes_of (c.into_parts-trees.ensures.variables j).added.items))) i) (c.into_parts-trees.ensures.trees i).items) c.function_with.ensures
