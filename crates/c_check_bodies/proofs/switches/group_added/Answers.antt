use Rattle.std.proofs.Common.{◌≡◌, [], ◌∷◌, ◌++◌, refl, ◌∙◌, rules}
use Rattle.c_check_bodies.proofs.LaidLemmas.{labelled_as}
use Rattle.c_check_bodies.proofs.switches.group_added.Goals as goal
use Rattle.c_check_bodies.specs.VariablesView.{both_declared, variables_of}
use Rattle.c_tree.specs.declared.tree.TGroup.{TGroup}

pub returns : goal.returns
returns c =
    let added : TGroup = record { labels = c.args.labels; body = c.into_parts-trees.result.0 } in
    let grown : c.push.new.self.items ≡ c.into_parts-groups.result.0.items ++ added ∷ [] = search rules in
    labelled_as (variables_of c.in_ok-variables.variables) (variables_of c.args.first.variables) (variables_of c.args.body.variables) c.args.first.groups.items c.push.new.self.items added
    c.in_ok-all_labels.all_labels.items c.args.first.labels.items c.args.labels.items c.args.body.trees.items
    (c.in_ok-variables.ensures ∙ (λ i. both_declared (variables_of (c.into_parts-groups.ensures.variables i)) (variables_of (c.into_parts-trees.ensures.variables i))))
    (grown ∙ (λ i. (c.into_parts-groups.ensures.groups i).items ++ added ∷ [])) refl (λ i. (c.into_parts-trees.ensures.trees i).items)
    (c.in_ok-all_labels.ensures ∙ (λ i. (c.into_parts-groups.ensures.labels i).items ++ c.deref.ensures.value i))
