-- What a monitor stands at after a history that is accepted.
use Rattle.std.proofs.Common.{◌≡◌, ◌↔◌, ℕ, List, [], ◌∷◌, Option, Some, None, refl, sym, ◌∙◌, ap, arith}
use Rattle.std.specs.Prelude.{IfSome, IfNone}
use Rattle.dm_base.specs.declared.event.Event.{Event}
use Rattle.dm_base.specs.declared.verdict.Step.{Step}
use Rattle.dm_base.specs.declared.verdict.Step.TheVariants.{Kept, Rejected, Bound}
use Rattle.dm_sets.specs.Nodes.{Has}
use Rattle.flow_model.specs.declared.which.Which.TheVariants.{Dyck}
use Rattle.flow_model.specs.Graph.{Graph}
use Rattle.flow_model.specs.Verdict.{IsAccepted, IsStep}
use Rattle.flow_model.proofs.Verdicts.{kept-reads, kept-within}
use Rattle.dyck_monitor.specs.Standing.{IsReached, HoldsRuns, Position, StandsFor}

-- the last answer of an accepted history
accepted_kept : (g : Graph) (bound : ℕ) (h : List Event) (step : Step) → IsStep Dyck g bound h step → IsAccepted Dyck g bound h → step ≡ Kept
accepted_kept g bound h Kept told accepted = refl
accepted_kept g bound h Rejected (k, at) accepted = absurd (at.refused (kept-reads Dyck g bound _ (accepted.kept k at.within)))
accepted_kept g bound h Bound (k, at) accepted =
    let few = kept-within Dyck g bound _ refl (accepted.kept k at.within) in
    absurd (omega (arith, few, at.deep))

module _ (m : Position) (g : Graph) (bound : ℕ) (h : List Event) (stands : StandsFor m g bound h) (accepted : IsAccepted Dyck g bound h) where
  holds : HoldsRuns g (Has m.nodes) m.sites.items h
  holds = stands.holds (accepted_kept g bound h m.last stands.told accepted)

  -- the nodes of the set are those to which runs lead
  pub at_nodes : (v : ℕ) → Has m.nodes v ↔ ((z : List ℕ) × IsReached g h v z)
  at_nodes v = (λ has. (m.sites.items, (holds v m.sites.items).1 (has, refl)), λ (z, reached). ((holds v z).0 reached).0)

  -- and the site on top is that of all of them
  pub at_top : (top : Option ℕ) → ((s : ℕ) → (top ≡ Some s) ↔ ((z : List ℕ) × (m.sites.items ≡ s ∷ z)))
      → (v s : ℕ) → ((z : List ℕ) × IsReached g h v (s ∷ z)) ↔ (((z : List ℕ) × IsReached g h v z) × (top ≡ Some s))
  at_top top is v s = (
    λ (z, reached). ((s ∷ z, reached), (is s).1 (z, sym ((holds v (s ∷ z)).0 reached).1)),
    λ ((z, reached), same).
        let (rest, items) = (is s).0 same in
        (rest, (holds v (s ∷ rest)).1 (((holds v z).0 reached).0, sym items)),
  )

-- what `top` says of the stack
pub top_is : (top : Option ℕ) (items : List ℕ) → IfSome top (λ item. (rest : List ℕ) × (items ≡ item ∷ rest)) → IfNone top (items ≡ []) → (s : ℕ) → (top ≡ Some s) ↔ ((z : List ℕ) × (items ≡ s ∷ z))
top_is (Some n) items (rest, is) none s = (
  λ same. let e : n ≡ s = cc in (rest, is ∙ ap (λ k. k ∷ rest) e),
  λ (z, other). let both : n ∷ rest ≡ s ∷ z = sym is ∙ other in let e : n ≡ s = cc in ap Some e,
)
top_is None items some none s = (λ same. absurd cc, λ (z, other). let both : ◌≡◌ {A = List ℕ} [] (s ∷ z) = sym none ∙ other in absurd cc)
