use Rattle.std.proofs.Common.{◌≡◌, [], ◌∷◌, refl, sym, subst}
use Rattle.dm_base.specs.declared.event.Event.{Event}
use Rattle.dm_base.specs.Trace.{erase}
use Rattle.certify_steps.proofs.CheckLemmas.{on_by, on_null}
use Rattle.certify_steps.proofs.checks.leads_on.Goals as goal

pub returns-in-Sys : goal.returns-in-Sys
returns-in-Sys c =
    let P : Event → Type 0 = λ e. erase (e ∷ []) ≡ e ∷ [] in
    on_by c.args.model.now c.args.node c.args.event.now c.sys_from.result.now c.is_one_read.result (subst P (sym c.in-Sys.is) refl) c.sys_from.ensures c.is_one_read.ensures

pub returns-in-Pre : goal.returns-in-Pre
returns-in-Pre c = let P : Event → Type 0 = λ e. erase (e ∷ []) ≡ [] in on_null c.args.model.now c.args.node c.args.event.now (subst P (sym c.in-Pre.is) refl)

pub returns-in-Post : goal.returns-in-Post
returns-in-Post c = let P : Event → Type 0 = λ e. erase (e ∷ []) ≡ [] in on_null c.args.model.now c.args.node c.args.event.now (subst P (sym c.in-Post.is) refl)
