use Rattle.std.proofs.Common.{rules}
use Rattle.flow_model.proofs.builder.ModelBuilder.check_first_five.Goals as goal

pub returns-then-not-has_inner_edges-clause-err : goal.returns-then-not-has_inner_edges-clause-err
returns-then-not-has_inner_edges-clause-err c = search (rules, c.has_inner_edges.ensures c.args.start)

pub returns-then-not-has_known_functions-clause-err : goal.returns-then-not-has_known_functions-clause-err
returns-then-not-has_known_functions-clause-err c = search (rules, c.has_inner_edges.ensures c.args.start, c.has_known_functions.ensures c.args.nodes)

pub returns-clause-ok : goal.returns-clause-ok
returns-clause-ok c = search (rules, c.has_inner_edges.ensures c.args.start, c.has_known_functions.ensures c.args.nodes)
