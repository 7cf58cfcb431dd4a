use Rattle.flow_model.specs.Starts.{AreStarts}
use Rattle.flow_model.proofs.groups.starts_of.Given as goal

abbrev pub invariant-loop-group : goal.invariant-loop-group
invariant-loop-group g l = AreStarts g.T.Numbered.number l.items l.group l.starts.items
