use Rattle.std.proofs.Common.{sym, subst}
use Rattle.c_check_types.specs.Agreement.{AgreesWith}
use Rattle.c_check_primary.specs.CalleeView.{callee_of}
use Rattle.c_check_counts.specs.View.{env_of}
use Rattle.c_syntax.specs.View.{expr_of}
use Rattle.c_tree.specs.View.{ctype_of}
use Rattle.c_check_expressions.proofs.DesignatorLemmas.{direct, indirect, named_counts, unnamed_callee}
use Rattle.c_check_expressions.proofs.designators.direct_callee.Goals as goal

pub returns-in_default-clause-through : goal.returns-in_default-clause-through
returns-in_default-clause-through c = λ g. unnamed_callee (env_of c.args.env.now) c.args.at (expr_of c.args.designator.now) g (sym c.in_default.ensures)

pub returns-in_default-function_named-clause-through : goal.returns-in_default-function_named-clause-through
returns-in_default-function_named-clause-through c = λ g. indirect (env_of c.args.env.now) c.args.at c.args.designator.now g c.in-Some.name.now (sym c.in-Some.ensures) (sym c.in_default-function_named.ensures)

pub returns-clause-judged : goal.returns-clause-judged
returns-clause-judged c = λ g.
    subst (AgreesWith callee_of c.callee_by_name.result) (sym (direct (env_of c.args.env.now) c.args.at c.args.designator.now g c.in-Some.name.now (ctype_of c.in-Some-function_named.ctype.now) (sym c.in-Some.ensures) (sym c.in-Some-function_named.ensures))) c.callee_by_name.ensures

pub returns-clause-counted : goal.returns-clause-counted
returns-clause-counted c = λ b. named_counts (expr_of c.args.designator.now) c.in-Some.name.now b (sym c.in-Some.ensures)
