use Rattle.std.proofs.Common.{rules}
use Rattle.ref_machine_frames.proofs.CellLemmas.{none_step}
use Rattle.ref_machine_frames.proofs.cells.shallow.Goals as goal

pub loop-members-preserved : goal.loop-members-preserved
loop-members-preserved c = none_step c.loop-members.counts.items c.push.new.self.items c.loop-members.invariant (search rules)

pub returns : goal.returns
returns c = c.loop-members.invariant
