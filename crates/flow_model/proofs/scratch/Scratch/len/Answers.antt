use Rattle.std.proofs.Common.{◌≤◌, length, ap, arith}
use Rattle.flow_model.specs.Found.{Found}
use Rattle.flow_model.proofs.FoundLemmas.{found_of_set}
use Rattle.flow_model.proofs.scratch.Scratch.len.Goals as goal
use Rattle.flow_model.proofs.scratch.Scratch.len.Goals.{After-len}

few : (c : After-len) → length c.self.inside.found.items ≤ c.self.inside.members.size
few c = (found_of_set c.self.inside.members c.self.inside.found.items c.self.invariant.0).few

pub overflow_cast-result : goal.overflow_cast-result
overflow_cast-result c = omega (arith, few c, c.self.inside.found.ok.0)

pub returns-clause-few : goal.returns-clause-few
returns-clause-few c = omega (arith, few c, c.self.inside.found.ok.0, ap (λ (f : Found). f.size) c.self.view_is)
