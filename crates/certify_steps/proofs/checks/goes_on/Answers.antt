use Rattle.certify_steps.proofs.CheckLemmas.{goes_walk, goes_run}
use Rattle.certify_steps.proofs.checks.goes_on.Goals as goal

pub returns-in-Callgraph : goal.returns-in-Callgraph
returns-in-Callgraph c = goes_walk c.args.model.now c.args.trace.now c.args.fact c.in-Callgraph.k c.in-Callgraph.v c.leads_on_at.result c.in-Callgraph.is c.leads_on_at.ensures

pub returns-in-At : goal.returns-in-At
returns-in-At c = goes_run c.args.model.now c.args.trace.now c.args.fact c.in-At.k c.in-At.i c.in-At.f c.in-At.v c.leads_on_at-in-At.result c.in-At.is c.leads_on_at-in-At.ensures
