use Rattle.std.proofs.Common.{get_or, refl}
use Rattle.flow_model.specs.declared.records.SilentEdge.{SilentEdge}
use Rattle.inline_model.proofs.InliningLemmas.{silent_none, silent_more, silent_all}
use Rattle.inline_model.proofs.building.add_silent.Goals as goal

pub loop-i-init : goal.loop-i-init
loop-i-init c = silent_none c.args.builder.now c.args.edges.now

pub loop-i-preserved : goal.loop-i-preserved
loop-i-preserved c =
    let d : SilentEdge = record { from = 0; to = 0 } in
    silent_more c.args.builder.now c.loop-i.builder c.silent.new.self c.args.edges.now c.loop-i.i d (get_or c.args.edges.now c.loop-i.i d) c.loop-i-test.true refl c.loop-i.invariant c.in_ok-silent.ensures.ok

pub returns : goal.returns
returns c = silent_all c.args.builder.now c.loop-i.builder c.args.edges.now c.loop-i.i c.loop-i-test.false c.loop-i.invariant
