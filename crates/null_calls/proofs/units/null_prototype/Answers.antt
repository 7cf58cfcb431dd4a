use Rattle.std.proofs.Common.{[], ◌∷◌, ◌++◌, ◌∙◌, ap}
use Rattle.c_syntax.specs.Tree.{no_params}
use Rattle.c_syntax.specs.View.{declarator_of}
use Rattle.c_syntax.specs.UnitView.{decl_of}
use Rattle.c_syntax.specs.Writes.{params_of}
use Rattle.null_calls.proofs.UnitLemmas.{prototype_made}
use Rattle.null_calls.proofs.units.null_prototype.Goals as goal

pub returns : goal.returns
returns c =
    prototype_made c.args.name (decl_of c.in_ok-decl.decl) (declarator_of c.function_node-declarator.result) (declarator_of c.in_ok-inner.inner.value) (params_of c.push.new.self.items)
    c.in_ok-decl.ensures c.function_node-declarator.ensures (ap declarator_of c.in_ok-inner.ensures.ok ∙ c.declared_node.ensures)
    (ap params_of (c.in_ok-push.ensures.items ∙ ap (λ xs. xs ++ c.param_node.result ∷ []) c.new-params.ensures.items) ∙ c.param_node.ensures no_params)
