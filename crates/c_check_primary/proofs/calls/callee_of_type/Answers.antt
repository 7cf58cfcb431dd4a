use Rattle.std.proofs.Common.{sym, subst}
use Rattle.c_check_values.specs.Agreement.{AgreesWith}
use Rattle.c_check_primary.specs.CalleeView.{callee_of}
use Rattle.c_check_primary.proofs.CallLemmas.{named_function}
use Rattle.c_check_primary.proofs.calls.callee_of_type.Goals as goal

pub returns-in-Function : goal.returns-in-Function
returns-in-Function c =
    subst (AgreesWith callee_of c.callee_with.result)
    (sym (named_function c.args.at c.args.f c.args.t.now c.in-Function.returns c.in-Function.parameters c.deref.result.now c.deref-in-Function.result.now c.in-Function.is c.deref.ensures c.deref-in-Function.ensures.value)) c.callee_with.ensures
