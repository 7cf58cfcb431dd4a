use Rattle.dm_base.proofs.Depth.{depth-greatest}
use Rattle.dm_base.proofs.laws.depth_is_the_greatest_excess.Goals as goal

pub returns : goal.returns
returns c = depth-greatest
