use Rattle.std.proofs.Common.{◌≡◌, ◌++◌, ◌∙◌, rules}
use Rattle.c_check_bodies.proofs.LaidLemmas.{all_as}
use Rattle.c_check_bodies.proofs.statement_tree.appended.Goals as goal
use Rattle.c_check_bodies.specs.VariablesView.{both_declared, variables_of}

pub returns : goal.returns
returns c =
    let grown : c.append.new.self.items ≡ c.into_parts-all.result.0.items ++ c.into_parts-behind.result.0.items = search rules in
    all_as (variables_of c.in_ok-variables.variables) (variables_of c.args.first.variables) (variables_of c.args.second.variables) c.args.first.trees.items c.args.second.trees.items c.append.new.self.items
    (c.in_ok-variables.ensures ∙ (λ i. both_declared (variables_of (c.into_parts-all.ensures.variables i)) (variables_of (c.into_parts-behind.ensures.variables i))))
    (grown ∙ (λ i. (c.into_parts-all.ensures.trees i).items ++ (c.into_parts-behind.ensures.trees i).items))
