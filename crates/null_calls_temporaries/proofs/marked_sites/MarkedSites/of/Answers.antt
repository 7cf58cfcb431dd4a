use Rattle.std.proofs.Common.{◌∙◌, None, ap, arith}
use Rattle.std.specs.Prelude.{slice_index_or}
use Rattle.c_tree.specs.View.{program_of}
use Rattle.c_meaning.specs.CallGraph.{callee_at}
use Rattle.null_calls_laws.specs.MarkedCalls.{sites_of}
use Rattle.flow_graph.specs.Saying.{said}
use Rattle.null_calls_temporaries.specs.Callees.{callee_where}
use Rattle.null_calls_temporaries.proofs.SiteLemmas.{site_more, all_sited}
use Rattle.null_calls_temporaries.proofs.marked_sites.MarkedSites.of.Goals as goal

pub loop-site-preserved : goal.loop-site-preserved
loop-site-preserved c =
    let site = c.loop-site.site in
    site_more (sites_of (program_of c.args.program.now)) site c.loop-site.all.items c.add.new.into.items c.called_at-one.result c.loop-site.invariant c.in_ok-add.ensures
    (c.called_at-one.ensures (ap callee_where (c.callee_in-callee.ensures ∙ ap (λ xs. slice_index_or xs site None) c.deref-in-loop-site.ensures.value)
    ∙ (c.in_ok-callees.ensures.are site c.loop-site-test.true ∙ ap (callee_at site) (ap said c.deref.ensures.value ∙ c.in_ok-said.ensures))))

pub returns : goal.returns
returns c = all_sited (program_of c.args.program.now) c.sites-count.result c.sites-count.ensures.typed c.loop-site.site c.loop-site.all.items (omega arith) (omega arith) c.loop-site.invariant
