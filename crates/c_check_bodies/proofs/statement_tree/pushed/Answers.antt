use Rattle.std.proofs.Common.{[], ◌∷◌, ◌++◌, ◌∙◌}
use Rattle.c_check_bodies.proofs.LaidLemmas.{all_as}
use Rattle.c_check_bodies.proofs.statement_tree.pushed.Goals as goal
use Rattle.c_check_bodies.specs.VariablesView.{both_declared, variables_of}

pub returns : goal.returns
returns c =
    all_as (variables_of c.in_ok-variables.variables) (variables_of c.args.first.variables) (variables_of c.args.one.variables) c.args.first.trees.items (c.args.one.tree.value ∷ []) c.in_ok-all.all.items
    (c.in_ok-variables.ensures ∙ (λ i. both_declared (variables_of (c.into_parts-trees.ensures.variables i)) (variables_of (c.into_parts-tree.ensures.variables i))))
    (c.in_ok-all.ensures ∙ (λ i. (c.into_parts-trees.ensures.trees i).items ++ (c.into_parts-tree.ensures.tree i).value ∷ []))
