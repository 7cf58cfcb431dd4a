use Rattle.std.proofs.Common.{get_or, length, refl}
use Rattle.std.proofs.lemmas.List.{get_or_default}
use Rattle.std.proofs.lemmas.Option.{slice_get_read}
use Rattle.flow_model.specs.declared.records.SilentEdge.{SilentEdge}
use Rattle.model_file.specs.ModelText.{silent_line, IsSpelledSilent}
use Rattle.model_file.proofs.WritingLemmas.{so_far, text_more}
use Rattle.model_file.proofs.writing.push_all_silent.Goals as goal

pub loop-edge-preserved : goal.loop-edge-preserved
loop-edge-preserved c =
    let edges = c.args.edges.now in
    let i = c.loop-edge.edge-index in
    let edge : SilentEdge = get_or edges i record { from = 0; to = 0 } in
    let there = slice_get_read edges (length edges) i edge refl c.loop-edge-test.true (get_or_default edges i record { from = 0; to = 0 } edge c.loop-edge-test.true) in
    record {
      text = text_more silent_line edges i edge c.args.text.now.items c.loop-edge.text.items c.push_silent.new.text.items c.loop-edge-test.true there c.loop-edge.invariant.text c.in_ok-push_silent.ensures.text;
      small = so_far IsSpelledSilent edges i edge there c.in_ok-push_silent.ensures.small c.loop-edge.invariant.small;
    }
