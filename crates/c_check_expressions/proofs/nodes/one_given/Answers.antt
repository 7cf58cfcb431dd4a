use Rattle.std.proofs.Common.{subst}
use Rattle.c_check_types.specs.Agreement.{AgreesWith}
use Rattle.c_check_types.specs.TypedExpressionView.{typed_expression_of}
use Rattle.c_check_counts.specs.View.{env_of}
use Rattle.c_rules.specs.Checked.{fine}
use Rattle.c_rules.specs.Expressions.{access}
use Rattle.c_rules.specs.PostfixExpressions.{member_of}
use Rattle.c_syntax.specs.Tree.{arrow}
use Rattle.c_check_expressions.proofs.Trees.{one_as, one_of_other}
use Rattle.c_check_expressions.proofs.nodes.one_given.Goals as goal

pub returns-in-Member : goal.returns-in-Member
returns-in-Member c =
    one_as c.member_of.result (env_of c.args.env.now) c.args.e.now c.args.place (typed_expression_of c.args.g) c.in-Member.is
    (subst (λ n. AgreesWith typed_expression_of c.member_of.result (member_of (env_of c.args.env.now) c.args.e.now.at n (typed_expression_of c.args.g))) c.as_slice.ensures c.member_of.ensures)

pub returns-in-Arrow : goal.returns-in-Arrow
returns-in-Arrow c =
    one_as c.member_behind.result (env_of c.args.env.now) c.args.e.now c.args.place (typed_expression_of c.args.g) c.in-Arrow.is
    (subst (λ n. AgreesWith typed_expression_of c.member_behind.result (access (env_of c.args.env.now) c.args.e.now.at c.args.place arrow n (fine (typed_expression_of c.args.g)))) c.as_slice-in-Arrow.ensures c.member_behind.ensures)

pub returns-in-PostInc : goal.returns-in-PostInc
returns-in-PostInc c = one_as c.stepped.result (env_of c.args.env.now) c.args.e.now c.args.place (typed_expression_of c.args.g) c.in-PostInc.is c.stepped.ensures

pub returns-in-PostDec : goal.returns-in-PostDec
returns-in-PostDec c = one_as c.stepped-in-PostDec.result (env_of c.args.env.now) c.args.e.now c.args.place (typed_expression_of c.args.g) c.in-PostDec.is c.stepped-in-PostDec.ensures

pub returns-in-PreInc : goal.returns-in-PreInc
returns-in-PreInc c = one_as c.stepped-in-PreInc.result (env_of c.args.env.now) c.args.e.now c.args.place (typed_expression_of c.args.g) c.in-PreInc.is c.stepped-in-PreInc.ensures

pub returns-in-PreDec : goal.returns-in-PreDec
returns-in-PreDec c = one_as c.stepped-in-PreDec.result (env_of c.args.env.now) c.args.e.now c.args.place (typed_expression_of c.args.g) c.in-PreDec.is c.stepped-in-PreDec.ensures

pub returns-in-Unary : goal.returns-in-Unary
returns-in-Unary c = one_as c.unary_given.result (env_of c.args.env.now) c.args.e.now c.args.place (typed_expression_of c.args.g) c.in-Unary.is c.unary_given.ensures

pub returns-in_default : goal.returns-in_default
returns-in_default c =
    one_of_other (env_of c.args.env.now) c.args.e.now.at c.args.place (typed_expression_of c.args.g) c.args.e.now.kind
    c.in_default.not-Member c.in_default.not-Arrow c.in_default.not-PostInc c.in_default.not-PostDec c.in_default.not-PreInc c.in_default.not-PreDec c.in_default.not-Unary
