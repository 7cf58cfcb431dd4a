use Rattle.std.proofs.Common.{length, refl}
use Rattle.std.proofs.lemmas.Option.{slice_get_read}
use Rattle.model_file.specs.declared.version.ModelVersion.TheVariants.{Two}
use Rattle.model_file.specs.ModelText.{sys_line}
use Rattle.model_file.specs.Writing.{IsSmallSys}
use Rattle.model_file.proofs.WritingLemmas.{so_far, text_more}
use Rattle.model_file.proofs.writing.push_all_sys.Goals as goal

pub loop-edge-preserved : goal.loop-edge-preserved
loop-edge-preserved c =
    let edges = c.args.edges.now in
    let i = c.loop-edge.edge-index in
    let edge = c.edge-item.result in
    let there = slice_get_read edges (length edges) i edge refl c.loop-edge-test.true c.edge-item.is in
    record {
      text = text_more (sys_line Two) edges i edge c.args.text.now.items c.loop-edge.text.items c.push_sys.new.text.items c.loop-edge-test.true there c.loop-edge.invariant.text c.in_ok-push_sys.ensures.text;
      small = so_far IsSmallSys edges i edge there c.in_ok-push_sys.ensures.small c.loop-edge.invariant.small;
    }
