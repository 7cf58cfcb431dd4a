use Rattle.std.proofs.Common.{◌≡◌, ℕ}
use Rattle.dm_base.specs.Adding.{Has}
use Rattle.certify_steps.specs.Stepping.{IsOfCall}
use Rattle.certify_steps.proofs.AddingLemmas.{adds_init, adds_step_at, adds_end}
use Rattle.certify_steps.proofs.stepping.call_each_site.Goals as goal

pub loop-site-init : goal.loop-site-init
loop-site-init c = adds_init c.args.found.now.items (λ (s : ℕ) l. Has (λ d. (d.site ≡ s) × IsOfCall c.args.model.now.functions c.args.number c.args.fact d l) c.args.model.now.calls)

pub loop-site-preserved : goal.loop-site-preserved
loop-site-preserved c = adds_step_at c.args.found.now.items c.loop-site.found.items c.call_site.new.found.items (λ (s : ℕ) l. Has (λ d. (d.site ≡ s) × IsOfCall c.args.model.now.functions c.args.number c.args.fact d l) c.args.model.now.calls) c.args.sites.now c.loop-site.site-index 0 c.loop-site-test.true c.loop-site.invariant c.in_ok-call_site.ensures

pub returns : goal.returns
returns c = adds_end c.args.found.now.items c.loop-site.found.items (λ (s : ℕ) l. Has (λ d. (d.site ≡ s) × IsOfCall c.args.model.now.functions c.args.number c.args.fact d l) c.args.model.now.calls) c.args.sites.now c.loop-site.site-index c.loop-site-test.false c.loop-site.invariant
