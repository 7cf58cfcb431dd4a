use Rattle.std.proofs.Common.{sym, subst}
use Rattle.c_tree.specs.View.{expr_of}
use Rattle.c_check_values.specs.Agreement.{AgreesWith}
use Rattle.c_check_primary.specs.CalleeView.{callee_of}
use Rattle.c_check_primary.proofs.CallLemmas.{function_behind}
use Rattle.c_check_primary.proofs.calls.callee_behind.Goals as goal

pub returns-in-Function : goal.returns-in-Function
returns-in-Function c =
    subst (AgreesWith callee_of c.callee_with.result)
    (sym (function_behind c.args.at (expr_of c.args.tree) c.args.t.now c.in-Function.returns c.in-Function.parameters c.deref.result.now c.deref-in-Function.result.now c.in-Function.is c.deref.ensures c.deref-in-Function.ensures.value)) c.callee_with.ensures
