-- Where the last answer isn't Kept it stays.
use Rattle.std.proofs.Common.{◌≡◌, ap, ◌∙◌, sym, subst, rules}
use Rattle.dm_base.specs.declared.verdict.Step.TheVariants.{Kept}
use Rattle.flow_model.specs.declared.which.Which.TheVariants.{Dyck}
use Rattle.flow_model.specs.Verdict.{IsStep}
use Rattle.dyck_monitor.specs.Standing.{Position}
use Rattle.dyck_monitor.proofs.Going.{stands_over}
use Rattle.dyck_monitor.proofs.monitor.DyckMonitorCountedMonitor.feed_counted.Goals as goal

pub returns-then-ne-clause-stands : goal.returns-then-ne-clause-stands
returns-then-ne-clause-stands g c = λ k h stands.
    let is_last = ap (λ (p : Position). p.last) c.self.view_is in
    let over : c.self.inside.last ≡ Kept → ⊥ = λ is. search rules in
    stands_over c.args.model.now k c.args.self.now.nodes c.args.self.now.sites h c.args.self.now.last c.args.event.now (λ is. over (is_last ∙ is)) stands

pub returns-then-ne-clause-exact : goal.returns-then-ne-clause-exact
returns-then-ne-clause-exact g c = λ k h stands.
    let is_last = ap (λ (p : Position). p.last) c.self.view_is in
    let over : c.self.inside.last ≡ Kept → ⊥ = λ is. search rules in
    let still = stands_over c.args.model.now k c.args.self.now.nodes c.args.self.now.sites h c.args.self.now.last c.args.event.now (λ is. over (is_last ∙ is)) stands in
    subst (IsStep Dyck c.args.model.now k _) (sym is_last) still.told
