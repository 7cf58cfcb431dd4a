use Rattle.std.proofs.Common.{refl, sym, subst}
use Rattle.flow_model.specs.Graph.{HasFunction}
use Rattle.certify.proofs.ClaimLemmas.{start_function, only_walk, only_run}
use Rattle.certify.proofs.closed.start_of.Goals as goal

pub returns-in-Callgraph-clause-start : goal.returns-in-Callgraph-clause-start
returns-in-Callgraph-clause-start c = (refl, (c.index-functions-start.result.exit, (start_function c.args.model.now c.functions.result.now c.start-start.result c.index-functions-start.result c.functions.ensures c.start-start.ensures.start c.start-start.ensures.known c.index-functions-start.is)))

pub returns-in-Callgraph-clause-only : goal.returns-in-Callgraph-clause-only
returns-in-Callgraph-clause-only c = only_walk c.args.model.now c.args.judge c.in-Callgraph.is c.index-functions-start.result.entry c.index-functions-start.result.exit (start_function c.args.model.now c.functions.result.now c.start-start.result c.index-functions-start.result c.functions.ensures c.start-start.ensures.start c.start-start.ensures.known c.index-functions-start.is)

pub returns-in-Stack-clause-start : goal.returns-in-Stack-clause-start
returns-in-Stack-clause-start c = (
  refl,
  refl,
  c.start-start.ensures.start,
  (
    c.index-functions-start.result.exit,
    subst (λ n. HasFunction c.args.model.now n c.index-functions-start.result.entry c.index-functions-start.result.exit) (sym c.start-start.ensures.start) (start_function c.args.model.now c.functions.result.now c.start-start.result c.index-functions-start.result c.functions.ensures c.start-start.ensures.start c.start-start.ensures.known c.index-functions-start.is),
  ),
)

pub returns-in-Stack-clause-only : goal.returns-in-Stack-clause-only
returns-in-Stack-clause-only c = only_run c.args.model.now c.args.judge c.start-start.result c.in-Stack.is c.start-start.ensures.start c.index-functions-start.result.entry c.index-functions-start.result.exit (start_function c.args.model.now c.functions.result.now c.start-start.result c.index-functions-start.result c.functions.ensures c.start-start.ensures.start c.start-start.ensures.known c.index-functions-start.is)
