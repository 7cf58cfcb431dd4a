use Rattle.std.proofs.Common.{ap, ◌∙◌}
use Rattle.c_tree.specs.View.{ctype_of}
use Rattle.c_syntax.specs.View.{spec_of}
use Rattle.c_syntax.specs.SeenNames.{seen}
use Rattle.c_syntax_nodes.proofs.CopyLemmas.{made_as}
use Rattle.null_calls_laws.specs.SpelledTypes as types
use Rattle.null_calls_temporaries.proofs.SpelledLemmas.{function_spec}
use Rattle.null_calls_temporaries.proofs.spelled.+spec.Goals as goal

pub returns-in-Function : goal.returns-in-Function
returns-in-Function t c =
    let tags = seen c.args.tags.now in
    made_as spec_of c.spec-in-Function.result _ _
    (ap (λ x. types.spec_of tags c.args.at (ctype_of x)) c.deref-in-Function.ensures ∙ function_spec tags c.args.at c.args.t.now c.in-Function.returns _ c.in-Function.is) c.spec-in-Function.ensures
