use Rattle.inline_model.proofs.InliningLemmas.{sys_none, sys_more, sys_all}
use Rattle.inline_model.proofs.building.add_sys.Goals as goal

pub loop-i-init : goal.loop-i-init
loop-i-init c = sys_none c.args.builder.now c.args.edges.now

pub loop-i-preserved : goal.loop-i-preserved
loop-i-preserved c =
    let x = c.index-edges-i.result in
    sys_more c.args.builder.now c.loop-i.builder c.sys.new.self c.args.edges.now c.loop-i.i x x c.loop-i-test.true c.index-edges-i.is c.loop-i.invariant c.in_ok-sys.ensures.ok

pub returns : goal.returns
returns c = sys_all c.args.builder.now c.loop-i.builder c.args.edges.now c.loop-i.i c.loop-i-test.false c.loop-i.invariant
