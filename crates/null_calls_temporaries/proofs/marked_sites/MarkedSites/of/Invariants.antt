use Rattle.c_tree.specs.View.{program_of}
use Rattle.null_calls_laws.specs.MarkedCalls.{sites_of}
use Rattle.null_calls_temporaries.proofs.SiteLemmas.{AreSited}
use Rattle.null_calls_temporaries.proofs.marked_sites.MarkedSites.of.Given as goal

abbrev pub invariant-loop-site : goal.invariant-loop-site
invariant-loop-site l = AreSited (sites_of (program_of l.program)) l.site l.all.items
