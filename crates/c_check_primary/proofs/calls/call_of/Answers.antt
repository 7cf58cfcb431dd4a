use Rattle.c_rules.specs.TypedExpression.{not_constant, typed_value}
use Rattle.c_rules.specs.PostfixExpressions.{call_of}
use Rattle.c_tree.specs.View.{ctype_of, expr_with, exprs_of}
use Rattle.c_tree.specs.declared.tree.TExprKind.TheVariants.{Call, CallThrough}
use Rattle.c_check_primary.specs.CalleeView.{designator_of}
use Rattle.c_check_primary.proofs.CallLemmas.{call_through_it, direct_call, given_as}
use Rattle.c_check_primary.proofs.calls.call_of.Goals as goal

pub returns-in-Direct : goal.returns-in-Direct
returns-in-Direct c =
    given_as c.typed_value.result (typed_value (ctype_of c.args.returns) (expr_with (ctype_of c.args.returns) (Call c.args.site c.in-Direct.function c.args.arguments)) not_constant) (typed_value (ctype_of c.args.returns) (call_of (designator_of c.args.designator) (ctype_of c.args.returns) c.args.site (exprs_of c.args.arguments.items)) not_constant)
    (direct_call c.args.designator (ctype_of c.args.returns) c.args.site c.in-Direct.function c.args.arguments c.in-Direct.is) c.typed_value.ensures

pub returns-in_ok-new-in-Through : goal.returns-in_ok-new-in-Through
returns-in_ok-new-in-Through c =
    given_as c.typed_value-in-Through.result (typed_value (ctype_of c.args.returns) (expr_with (ctype_of c.args.returns) (CallThrough c.args.site c.in_ok-new-in-Through.field-0 c.args.arguments)) not_constant) (typed_value (ctype_of c.args.returns) (call_of (designator_of c.args.designator) (ctype_of c.args.returns) c.args.site (exprs_of c.args.arguments.items)) not_constant)
    (call_through_it c.args.designator (ctype_of c.args.returns) c.args.site c.in-Through.tree c.in_ok-new-in-Through.field-0 c.args.arguments c.in-Through.is c.in_ok-new-in-Through.ensures.ok) c.typed_value-in-Through.ensures
