use Rattle.std.proofs.Common.{subst}
use Rattle.flow_model.specs.Found.{AreFound}
use Rattle.flow_model.proofs.FoundLemmas.{found_of_set}
use Rattle.flow_model.proofs.scratch.Scratch.size.Goals as goal

pub returns-clause-found : goal.returns-clause-found
returns-clause-found c = subst AreFound c.self.view_is (found_of_set c.self.inside.members c.self.inside.found.items c.self.invariant.0)
