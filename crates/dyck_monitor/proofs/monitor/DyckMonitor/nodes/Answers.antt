use Rattle.std.proofs.Common.{◌↔◌, ℕ, List, sym, subst}
use Rattle.dm_sets.specs.Nodes.{Has}
use Rattle.dyck_monitor.specs.Standing.{IsReached, Position}
use Rattle.dyck_monitor.proofs.Accepted.{at_nodes}
use Rattle.dyck_monitor.proofs.monitor.DyckMonitor.nodes.Goals as goal

pub returns-clause-exact : goal.returns-clause-exact
returns-clause-exact c = λ g k h stands accepted v.
    subst (λ (m : Position). Has m.nodes v ↔ ((z : List ℕ) × IsReached g h v z)) (sym c.self.view_is) (at_nodes c.args.self.now g k h stands accepted v)
