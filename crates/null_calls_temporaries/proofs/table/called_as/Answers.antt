use Rattle.std.proofs.Common.{Some, ap, ◌∙◌}
use Rattle.c_tree.specs.View.{ctype_of, types_of}
use Rattle.null_calls_temporaries.specs.Sited.{type_where}
use Rattle.null_calls_temporaries.proofs.SiteLemmas.{called_function}
use Rattle.null_calls_temporaries.proofs.table.called_as.Goals as goal

pub returns-in-Function : goal.returns-in-Function
returns-in-Function c =
    ap Some c.called_with.ensures
    ∙ called_function (type_where c.args.pointer_type) c.args.t.now c.in-Function.returns c.in-Function.parameters (ctype_of c.deref.result.now) (types_of c.deref-in-Function.result.now) c.in-Function.is
    (ap ctype_of c.deref.ensures) (ap types_of c.deref-in-Function.ensures.value)
