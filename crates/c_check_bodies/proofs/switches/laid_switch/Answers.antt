use Rattle.std.proofs.Common.{ap, ◌∙◌}
use Rattle.c_check_initialisers.specs.TypedExpressionView.{typed_expression_of}
use Rattle.c_check_bodies.proofs.LaidLemmas.{laid_as}
use Rattle.c_check_bodies.proofs.switches.laid_switch.Goals as goal
use Rattle.c_check_bodies.specs.StatementTreeView.{statement_tree_of}
use Rattle.c_check_bodies.specs.VariablesView.{laid_with, variables_of}
use Rattle.c_rules.specs.TypedExpression.{tree_of}
use Rattle.c_tree.proofs.Rows.{switch_is}
use Rattle.c_tree.specs.declared.tree.TStmt.TheVariants.{Switch}
use Rattle.c_tree.specs.Tree.{switch_on}
use Rattle.c_tree.specs.View.{expr_of, groups_of, stmt_of}

pub returns : goal.returns
returns c =
    laid_as statement_tree_of c.with_variables.result (laid_with (variables_of c.into_parts-groups.result.2) (stmt_of (Switch c.in_ok-on.on c.into_parts-groups.result.0))) (laid_with (variables_of c.args.gs.variables) (switch_on (tree_of (typed_expression_of c.args.g)) (groups_of c.args.gs.groups.items)))
    ((λ i. laid_with (variables_of (c.into_parts-groups.ensures.variables i)) (stmt_of (Switch c.in_ok-on.on (c.into_parts-groups.ensures.groups i))))
    ∙ ap (laid_with (variables_of c.args.gs.variables)) (switch_is c.in_ok-on.on c.args.gs.groups ∙ ap (λ e. switch_on e (groups_of c.args.gs.groups.items)) (ap expr_of c.in_ok-on.ensures.ok ∙ c.in_ok-tree.ensures))) c.with_variables.ensures
