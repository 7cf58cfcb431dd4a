use Rattle.std.proofs.Common.{◌≡◌, List, [], ◌∷◌, ◌++◌, true, false, sym, ◌∙◌, subst}
use Rattle.std.proofs.lemmas.Bool.{both_ways}
use Rattle.dm_base.specs.declared.event.Event.{Event}
use Rattle.dm_base.specs.declared.verdict.Step.{Step}
use Rattle.flow_model.specs.Verdict.{IsStep}
use Rattle.report.specs.Measuring.{HasMeasured, Measured}
use Rattle.report.specs.Precision.{precision_bound}
use Rattle.report.proofs.MeasureLemmas.{measured_over, measured_refused, measured_more, measured_stands}
use Rattle.report.proofs.NextLemmas.{step_not_accepted}
use Rattle.report.proofs.precision.Meter.take.Goals as goal

pub returns-then-not-self : goal.returns-then-not-self
returns-then-not-self g c t measured =
    let m : Measured g.row.M-Pool.Denot g.row.M.Denot = c.args.self.now in
    let over : m.goes_on ≡ false = subst (λ (n : Measured g.row.M-Pool.Denot g.row.M.Denot). n.goes_on ≡ false) c.self.view_is c.if-not-self.true in
    measured_over g.M.Monitor.is_pool g.M.Monitor.stands g.M.Monitor.noted g.M.Monitor.WHICH c.args.model.now t c.args.event.now m over measured

pub returns-then-is_refused : goal.returns-then-is_refused
returns-then-is_refused g c t measured =
    let which = g.M.Monitor.WHICH in
    let model = c.args.model.now in
    let event = c.args.event.now in
    let before = subst (λ (m : Measured g.row.M-Pool.Denot g.row.M.Denot). HasMeasured g.M.Monitor.is_pool g.M.Monitor.stands g.M.Monitor.noted which m model t) (sym c.self.view_is) measured in
    let stands = (measured_stands g.M.Monitor.is_pool g.M.Monitor.stands g.M.Monitor.noted which model t event _ c.if-not-self.false before).0 in
    let told = c.in_ok-step.ensures.exact precision_bound t stands in
    measured_refused g.M.Monitor.is_pool g.M.Monitor.stands g.M.Monitor.noted which model t event _ c.feed.new.pool c.feed.new.self c.feed.ensures.pool (c.feed.ensures.notes before.notes)
    (step_not_accepted which model precision_bound (t ++ event ∷ []) c.in_ok-step.step (c.is_refused.ensures.yes c.if-is_refused.true) told) before

pub returns : goal.returns
returns g c t measured =
    let which = g.M.Monitor.WHICH in
    let model = c.args.model.now in
    let event = c.args.event.now in
    let before = subst (λ (m : Measured g.row.M-Pool.Denot g.row.M.Denot). HasMeasured g.M.Monitor.is_pool g.M.Monitor.stands g.M.Monitor.noted which m model t) (sym c.self.view_is) measured in
    let stands = (measured_stands g.M.Monitor.is_pool g.M.Monitor.stands g.M.Monitor.noted which model t event _ c.if-not-self.false before).0 in
    let kept = c.is_refused.ensures.no (λ yes. both_ways c.is_refused.result c.if-is_refused.false yes) in
    let accepted = subst (λ (s : Step). IsStep which model precision_bound (t ++ event ∷ []) s) kept (c.in_ok-step.ensures.exact precision_bound t stands) in
    let frame = c.count_next.ensures.frame in
    let fed = c.in_ok-step.ensures.stands precision_bound t stands in
    let notes = frame.notes (c.feed.ensures.notes before.notes) in
    let counted = frame.others c.feed.new.self precision_bound (t ++ event ∷ []) fed in
    measured_more g.M.Monitor.is_pool g.M.Monitor.stands g.M.Monitor.noted which model t event _ c.sweep_each.new.pool c.feed.new.self c.with_part-self-inside.result c.in_ok-next.next c.if-not-self.false
    (c.sweep_each.ensures.pool model frame.pool) (c.sweep_each.ensures.notes model frame.pool notes) (c.sweep_each.ensures.stands model precision_bound (t ++ event ∷ []) frame.pool notes counted) accepted
    (c.in_ok-next.ensures.exact precision_bound (t ++ event ∷ []) fed) c.in_ok-next.ensures.few c.with_part-self-inside.ensures.prefixes c.with_part-self-inside.ensures.sum before
