-- The labels of the edges that leave a monitor's key.
use Rattle.std.proofs.Common.{◌≡◌, ◌↔◌, ℕ, List, Contains, Some, take, sym, subst}
use Rattle.dm_base.specs.declared.event.Event.{Event}
use Rattle.flow_model.specs.declared.which.Which.TheVariants.{Stack}
use Rattle.flow_model.specs.Graph.{Graph}
use Rattle.flow_model.specs.Language.{IsConfig}
use Rattle.flow_model.specs.Verdict.{IsAccepted}
use Rattle.flow_model.proofs.Verdicts.{kept-reads}
use Rattle.stack_automaton.specs.declared.place.Edge.{Edge}
use Rattle.stack_automaton.specs.Held.{HasEdge}
use Rattle.stack_automaton.specs.Held.Path.{on}
use Rattle.stack_automaton.specs.Held.Leads.{here}
use Rattle.stack_automaton.specs.Seen.{Contents, Position, edges_at}
use Rattle.stack_automaton.specs.Standing.{StandsFor}
use Rattle.stack_automaton.specs.Standing.StandsFor.{kept, rejected}
use Rattle.stack_automaton.proofs.PathLemmas.{path_first}

-- where the edges are those of the monitor's key
pub tops_exact : (m : Position) (p : Contents) (g : Graph) (bound : ℕ) (h : List Event) (edges : List Edge) → ((es : List Edge) → edges_at p m.key ≡ Some es → edges ≡ es) → StandsFor m p g bound h → IsAccepted Stack g bound h
    → (v : ℕ) → ((q : ℕ) × Contains edges (record { label = v; to = q })) ↔ ((z : List ℕ) × IsConfig g h v z)
tops_exact m p g bound h edges are (rejected k is at) accepted v = absurd (at.refused (kept-reads Stack g bound (take k h) (accepted.kept k at.within)))
tops_exact m p g bound h edges are (kept is holds) accepted v =
    let (es, found) = holds.there in (
      λ (q, has).
          let edge : HasEdge (edges_at p) m.key v q = (es, found, subst (λ (xs : List Edge). Contains xs (record { label = v; to = q })) (are es found) has) in
          let (z, path) = holds.live v q q edge here in
          (z, (holds.holds v z).0 (on edge path)),
      λ (z, config).
          let (q, (fs, at, has), path) = path_first ((holds.holds v z).1 config) in
          (q, subst (λ (xs : List Edge). Contains xs (record { label = v; to = q })) (sym (are fs at)) has),
    )
