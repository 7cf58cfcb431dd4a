use Rattle.c_check_types.specs.TypedExpressionView.{typed_expression_of}
use Rattle.c_check_counts.specs.View.{env_of}
use Rattle.c_check_expressions.proofs.Trees.{first_as}
use Rattle.c_check_expressions.proofs.nodes.first_given.Goals as goal

pub returns-in-Assign : goal.returns-in-Assign
returns-in-Assign c = first_as c.assignable.result (env_of c.args.env.now) c.args.e.now c.args.place (typed_expression_of c.args.g) c.in-Assign.is c.assignable.ensures
