use Rattle.std.proofs.Common.{None}
use Rattle.c_values.proofs.SeenLemmas.{updated}
use Rattle.c_values.proofs.memory.Memory.end.Goals as goal

pub returns : goal.returns
returns c = updated c.args.self.now.objects c.remove-ended.new.self c.args.name c.key.result None c.key.ensures c.remove-ended.ensures.updates.0
