use Rattle.std.proofs.Common.{get_or, refl}
use Rattle.flow_model.specs.declared.records.SilentEdge.{SilentEdge}
use Rattle.flow_graph.proofs.RecordLemmas.{with_silent, silent_more, silent_end}
use Rattle.flow_graph.proofs.records.add_silent.Goals as goal

pub loop-i-preserved : goal.loop-i-preserved
loop-i-preserved c =
    let d : SilentEdge = record { from = 0; to = 0 } in
    silent_more c.args.edges.now c.loop-i.i d (get_or c.args.edges.now c.loop-i.i d) c.loop-i.builder c.silent.new.self (with_silent c.args.builder.now c.args.edges.now) c.loop-i-test.true refl c.loop-i.invariant c.in_ok-silent.ensures.ok

pub returns : goal.returns
returns c = silent_end c.args.edges.now c.loop-i.i c.loop-i.builder (with_silent c.args.builder.now c.args.edges.now) c.loop-i-test.false c.loop-i.invariant
