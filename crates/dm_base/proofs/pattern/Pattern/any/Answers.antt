use Rattle.std.proofs.Common.{None}
use Rattle.std.proofs.lemmas.List.{take-replicate}
use Rattle.dm_base.proofs.pattern.Pattern.any.Goals as goal

pub returns : goal.returns
returns c = take-replicate c.args.count 3 None c.requires
