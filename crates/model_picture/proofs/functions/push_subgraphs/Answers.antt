use Rattle.std.proofs.Common.{◌≡◌, ℕ, ◌+◌, arith}
use Rattle.model_picture.specs.Picture.{subgraph}
use Rattle.model_picture.proofs.PictureLemmas.{one_more}
use Rattle.model_picture.proofs.functions.push_subgraphs.Goals as goal

pub loop-number-preserved : goal.loop-number-preserved
loop-number-preserved c =
    let is : 0 + c.loop-number.number ≡ c.loop-number.number = omega arith in
    one_more (subgraph c.args.model.now) c.args.text.now.items _ _ 0 c.loop-number.number c.loop-number.number is c.loop-number.invariant c.in_ok-push_subgraph.ensures
