use Rattle.std.proofs.Common.{arith}
use Rattle.inline_model.proofs.InliningLemmas.{records_inlined}
use Rattle.inline_model.proofs.building.build.Goals as goal

pub finished-requires-clause-inlined : goal.finished-requires-clause-inlined
finished-requires-clause-inlined c =
    records_inlined c.args.model.now c.nodes-nodes.ensures.valid c.args.items.now c.requires c.count_nodes-nodes.result c.in_ok-one.one c.in_ok-silent.silent.items c.in_ok-sys.sys.items
    c.count_nodes-nodes.ensures c.in_ok-one.ensures c.in_ok-silent.ensures.edges c.in_ok-silent.ensures.rise c.in_ok-sys.ensures.edges c.in_ok-sys.ensures.rise
    c.in_ok-builder.builder c.deref.result.now c.deref-2.result.now c.deref.ensures.value c.deref-2.ensures.value c.in_ok-builder.ensures

pub finished-requires-clause-few : goal.finished-requires-clause-few
finished-requires-clause-few c = omega (arith, c.count_nodes-nodes.ensures c.requires, c.requires.few)
