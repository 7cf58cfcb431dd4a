use Rattle.std.proofs.Common.{List, [], ◌∷◌, ◌++◌, sym, subst}
use Rattle.dm_base.specs.declared.event.Event.{Event}
use Rattle.flow_model.specs.Verdict.{IsStep}
use Rattle.watch.specs.Pasts.{IsPast}
use Rattle.watch.proofs.process.Process.take.Goals as goal

pub returns-clause-history : goal.returns-clause-history
returns-clause-history g c = λ h at.
    let which = g.M.Monitor.WHICH in
    let model = c.args.setting.now.model in
    let bound = c.args.setting.now.bound in
    record {
      stands = c.in_ok-step.ensures.stands bound h at.stands;
      past = subst (λ (e : Event). IsPast which model bound (h ++ e ∷ []) c.note.new.self) c.in_ok-noted.ensures
          (c.note.ensures which model bound h at.past (subst (λ (e : Event). IsStep which model bound (h ++ e ∷ []) c.in_ok-step.step) (sym c.in_ok-noted.ensures) (c.in_ok-step.ensures.exact bound h at.stands)));
    }
