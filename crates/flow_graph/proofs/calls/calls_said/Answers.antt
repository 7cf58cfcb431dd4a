use Rattle.c_tree.specs.View.{program_of}
use Rattle.flow_graph.proofs.MadeCallGraph.{named_taken, calls_made}
use Rattle.flow_graph.proofs.calls.calls_said.Goals as goal

pub lists_in-requires : goal.lists_in-requires
lists_in-requires c = named_taken (program_of c.args.program.now) c.args.ms.now c.in_ok-taken.taken.keys c.requires c.in_ok-taken.ensures

pub returns : goal.returns
returns c = calls_made (program_of c.args.program.now) c.sites.result _ c.args.ms.now c.in_ok-types.types.items c.deref.result.now c.deref-2.result.now c.deref-4.result.now c.deref-3.result.now
    c.sites.ensures.typed c.requires c.deref.ensures.value c.deref-2.ensures.value c.deref-4.ensures.value c.deref-3.ensures.value c.defined.ensures
    c.in_ok-taken.ensures c.in_ok-types.ensures c.in_ok-lists.ensures c.in_ok-reaching.ensures c.in_ok-places.ensures.length c.in_ok-places.ensures.are
