use Rattle.std.proofs.Common.{◌≡◌, List, ℕ, ◌∷◌, refl, sym, subst}
use Rattle.dm_base.specs.declared.event.Event.{Event}
use Rattle.dyck_monitor.specs.Sites.{SitesGoOn}
use Rattle.dyck_monitor.proofs.monitor.is_next.Goals as goal

pub returns-in-Sys : goal.returns-in-Sys
returns-in-Sys c =
    let items = c.args.sites.now.items in
    (λ _. (items, subst (λ (e : Event). SitesGoOn e items items) (sym c.in-Sys.is) (stay items)), λ _. refl)
  where
    stay : (items : List ℕ) → items ≡ items
    stay items = refl

pub returns-in-Pre : goal.returns-in-Pre
returns-in-Pre c =
    let items = c.args.sites.now.items in
    let more : List ℕ = c.in-Pre.field-0 ∷ items in
    (λ _. (more, subst (λ (e : Event). SitesGoOn e items more) (sym c.in-Pre.is) (stay more)), λ _. refl)
  where
    stay : (items : List ℕ) → items ≡ items
    stay items = refl
