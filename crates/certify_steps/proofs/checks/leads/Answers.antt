use Rattle.std.proofs.Common.{◌≡◌, [], ◌∷◌, refl, sym, subst}
use Rattle.dm_base.specs.declared.event.Event.{Event}
use Rattle.dm_base.specs.Trace.{erase}
use Rattle.certify_steps.proofs.CheckLemmas.{read_by}
use Rattle.certify_steps.proofs.checks.leads.Goals as goal

pub returns-in-Sys : goal.returns-in-Sys
returns-in-Sys c =
    let P : Event → Type 0 = λ e. erase (e ∷ []) ≡ e ∷ [] in
    read_by c.args.model.now c.args.from c.args.to c.args.event.now c.sys_from.result.now c.is_one_read_to.result (subst P (sym c.in-Sys.is) refl) c.sys_from.ensures c.is_one_read_to.ensures
