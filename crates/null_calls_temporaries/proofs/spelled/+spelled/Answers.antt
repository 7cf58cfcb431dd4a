use Rattle.std.proofs.Common.{map, ap, ◌∙◌}
use Rattle.c_tree.specs.View.{ctype_of}
use Rattle.c_syntax.specs.Tree.{function, nothing}
use Rattle.c_syntax.specs.View.{declarator_of}
use Rattle.c_syntax.specs.Writes.{params_of}
use Rattle.c_syntax.specs.SeenNames.{seen}
use Rattle.c_syntax_nodes.proofs.CopyLemmas.{made_as}
use Rattle.null_calls_laws.specs.SpelledTypes as types
use Rattle.null_calls_temporaries.specs.Spelled.{spelled_param}
use Rattle.null_calls_temporaries.proofs.SpelledLemmas.{function_spelled}
use Rattle.null_calls_temporaries.proofs.spelled.+spelled.Goals as goal

pub declarator-returns-in_ok-list-in-Function : goal.declarator-returns-in_ok-list-in-Function
declarator-returns-in_ok-list-in-Function t c =
    let tags = seen c.args.tags.now in
    let at = c.args.at in
    let r = c.in-Function.returns in
    let v = c.in-Function.parameters in
    let ps = c.in_ok-list-in-Function.list.items in
    let d = declarator_of c.args.inner in
    made_as declarator_of c.declarator-in-Function.result _ _
    (function_spelled tags at c.args.t.now r v ps d _ c.in-Function.is (c.in_ok-list-in-Function.ensures ∙ ap (map (spelled_param tags at)) c.deref-in-Function.ensures.value)
    (ap (λ x. types.declarator_of tags at (ctype_of x) (declarator_of c.function_node-node.result)) c.deref-in-Function-2.ensures
    ∙ ap (types.declarator_of tags at (ctype_of r.value)) (c.function_node-node.ensures ∙ ap (λ x. function at (declarator_of x) (params_of ps)) c.in_ok-inner-in-Function.ensures.ok)))
    c.declarator-in-Function.ensures

pub nameless-returns-in_ok-made-in-Function : goal.nameless-returns-in_ok-made-in-Function
nameless-returns-in_ok-made-in-Function t c =
    let tags = seen c.args.tags.now in
    let at = c.args.at in
    let r = c.in-Function.returns in
    let v = c.in-Function.parameters in
    let ps = c.in_ok-list-in-Function.list.items in
    function_spelled tags at c.args.t.now r v ps nothing (declarator_of c.in_ok-made-in-Function.made) c.in-Function.is (c.in_ok-list-in-Function.ensures ∙ ap (map (spelled_param tags at)) c.deref-in-Function.ensures.value)
    (c.in_ok-made-in-Function.ensures ∙ (ap (λ x. types.declarator_of tags at (ctype_of x) (declarator_of c.function_node-node.result)) c.deref-in-Function-2.ensures
    ∙ ap (types.declarator_of tags at (ctype_of r.value)) c.function_node-node.ensures))
