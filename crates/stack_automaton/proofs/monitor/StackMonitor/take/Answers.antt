use Rattle.std.proofs.Common.{◌≡◌, sym, ◌∙◌, ap}
use Rattle.dm_base.specs.declared.verdict.Step.TheVariants.{Rejected}
use Rattle.stack_automaton.proofs.MonitorLemmas.{refused}
use Rattle.stack_automaton.proofs.monitor.StackMonitor.take.Goals as goal

pub returns-in-Rejected-clause-stands : goal.returns-in-Rejected-clause-stands
returns-in-Rejected-clause-stands c = λ k h stands.
    let is : c.args.self.now.answer ≡ Rejected = sym (ap (λ m. m.answer) c.self.view_is) ∙ c.in-Rejected.is in
    refused c.args.self.now c.args.pool.now c.args.model.now k h c.args.event.now is stands
