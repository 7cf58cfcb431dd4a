use Rattle.flow_graph.proofs.RecordLemmas.{with_sys, sys_more, sys_end}
use Rattle.flow_graph.proofs.records.add_sys.Goals as goal

pub loop-i-preserved : goal.loop-i-preserved
loop-i-preserved c =
    let x = c.index-edges-i.result in
    sys_more c.args.edges.now c.loop-i.i x x c.loop-i.builder c.sys.new.self (with_sys c.args.builder.now c.args.edges.now) c.loop-i-test.true c.index-edges-i.is c.loop-i.invariant c.in_ok-sys.ensures.ok

pub returns : goal.returns
returns c = sys_end c.args.edges.now c.loop-i.i c.loop-i.builder (with_sys c.args.builder.now c.args.edges.now) c.loop-i-test.false c.loop-i.invariant
