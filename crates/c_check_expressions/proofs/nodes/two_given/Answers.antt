use Rattle.std.proofs.Common.{subst}
use Rattle.c_check_types.specs.Agreement.{AgreesWith}
use Rattle.c_check_types.specs.TypedExpressionView.{typed_expression_of}
use Rattle.c_check_counts.specs.View.{env_of}
use Rattle.c_rules.specs.BinaryExpressions.{operation}
use Rattle.c_check_expressions.proofs.Trees.{two_as}
use Rattle.c_check_expressions.proofs.nodes.two_given.Goals as goal

pub returns-in-Index : goal.returns-in-Index
returns-in-Index c = two_as c.index_given.result (env_of c.args.env.now) c.args.e.now (typed_expression_of c.args.a) (typed_expression_of c.args.b) c.in-Index.is c.index_given.ensures

pub returns-in-And : goal.returns-in-And
returns-in-And c = two_as c.conjunction.result (env_of c.args.env.now) c.args.e.now (typed_expression_of c.args.a) (typed_expression_of c.args.b) c.in-And.is c.conjunction.ensures

pub returns-in-Or : goal.returns-in-Or
returns-in-Or c = two_as c.disjunction.result (env_of c.args.env.now) c.args.e.now (typed_expression_of c.args.a) (typed_expression_of c.args.b) c.in-Or.is c.disjunction.ensures

pub returns-in-Binary : goal.returns-in-Binary
returns-in-Binary c =
    two_as c.operation.result (env_of c.args.env.now) c.args.e.now (typed_expression_of c.args.a) (typed_expression_of c.args.b) c.in-Binary.is
    (subst (λ o. AgreesWith typed_expression_of c.operation.result (operation (env_of c.args.env.now) c.args.e.now.at o (typed_expression_of c.args.a) (typed_expression_of c.args.b))) c.operator_of_code.ensures c.operation.ensures)

pub returns-in-Assign : goal.returns-in-Assign
returns-in-Assign c = two_as c.assignment_by.result (env_of c.args.env.now) c.args.e.now (typed_expression_of c.args.a) (typed_expression_of c.args.b) c.in-Assign.is c.assignment_by.ensures
