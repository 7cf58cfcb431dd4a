use Rattle.std.proofs.Common.{◌+◌, refl}
use Rattle.model_picture.specs.Picture.{node_line}
use Rattle.model_picture.proofs.PictureLemmas.{one_more}
use Rattle.model_picture.proofs.functions.push_nodes.Goals as goal

pub loop-k-preserved : goal.loop-k-preserved
loop-k-preserved c =
    one_more (node_line c.args.one.now) c.args.text.now.items _ _ c.args.one.now.entry c.loop-k.k (c.args.one.now.entry + c.loop-k.k) refl c.loop-k.invariant c.in_ok-push_node.ensures
