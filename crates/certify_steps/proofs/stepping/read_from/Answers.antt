use Rattle.std.proofs.Common.{◌≡◌, [], ◌∷◌, refl, sym, subst}
use Rattle.certify_facts.specs.declared.fact.Reason.TheVariants.{Event}
use Rattle.certify_steps.specs.Adding.{Adds}
use Rattle.certify_steps.specs.Stepping.{line_of}
use Rattle.dm_base.specs.declared.event.Event.{Event as Called}
use Rattle.dm_base.specs.Trace.{erase}
use Rattle.certify_steps.proofs.AddingLemmas.{adds_same}
use Rattle.certify_steps.proofs.FollowLemmas.{read_sys, read_null}
use Rattle.certify_steps.proofs.stepping.read_from.Goals as goal

pub returns-in_ok-read_each-in-Sys : goal.returns-in_ok-read_each-in-Sys
returns-in_ok-read_each-in-Sys c =
    let P : Called → Type 0 = λ e. erase (e ∷ []) ≡ e ∷ [] in
    adds_same c.args.found.now.items c.read_each.new.found.items _ _ (λ l. read_sys c.args.model.now [] c.args.number c.args.next c.args.node c.args.event.now c.sys_from.result.now l (subst P (sym c.in-Sys.is) refl) c.sys_from.ensures) c.in_ok-read_each-in-Sys.ensures

pub returns-in_ok-add-in-Pre : goal.returns-in_ok-add-in-Pre
returns-in_ok-add-in-Pre c =
    let P : Called → Type 0 = λ e. erase (e ∷ []) ≡ [] in
    adds_same c.args.found.now.items c.add.new.found.items _ _ (λ l. read_null c.args.model.now [] c.args.number c.args.next c.args.node c.args.event.now l (subst P (sym c.in-Pre.is) refl))
    (subst (λ x. Adds c.args.found.now.items c.add.new.found.items (λ l. l ≡ line_of x (Event c.args.number))) c.moved.ensures c.in_ok-add-in-Pre.ensures)

pub returns-in_ok-add-in-Post : goal.returns-in_ok-add-in-Post
returns-in_ok-add-in-Post c =
    let P : Called → Type 0 = λ e. erase (e ∷ []) ≡ [] in
    adds_same c.args.found.now.items c.add-in-Post.new.found.items _ _ (λ l. read_null c.args.model.now [] c.args.number c.args.next c.args.node c.args.event.now l (subst P (sym c.in-Post.is) refl))
    (subst (λ x. Adds c.args.found.now.items c.add-in-Post.new.found.items (λ l. l ≡ line_of x (Event c.args.number))) c.moved-in-Post.ensures c.in_ok-add-in-Post.ensures)
