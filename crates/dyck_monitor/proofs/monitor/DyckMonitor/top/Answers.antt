use Rattle.std.proofs.Common.{◌≡◌, ◌↔◌, ℕ, List, ◌∷◌, Some, subst}
use Rattle.dyck_monitor.specs.Standing.{Position}
use Rattle.dyck_monitor.proofs.Accepted.{at_top, top_is}
use Rattle.dyck_monitor.proofs.monitor.DyckMonitor.top.Goals as goal

pub returns : goal.returns
returns c = λ g k h stands accepted v s.
    let top = subst (λ (m : Position). (n : ℕ) → (c.top.result ≡ Some n) ↔ ((z : List ℕ) × (m.sites.items ≡ n ∷ z))) c.self.view_is (top_is c.top.result c.self.inside.sites.items c.top.ensures.some c.top.ensures.none) in
    at_top c.args.self.now g k h stands accepted c.top.result top v s
