-- Events that a monitor is fed one after another: all of them are kept, or one is not.
use Rattle.std.proofs.Common.{◌≡◌, ◌-◌, ℕ, ◌+◌, ◌<◌, ◌≤◌, false, List, [], ◌∷◌, ◌++◌, IsTrue, length, take, drop, get_or, sym, ◌∙◌, ap, subst, append_assoc, length-append, arith}
use Rattle.std.specs.Prelude.{◌↔◌}
use Rattle.std.proofs.Math.Seq.{take-add}
use Rattle.std.proofs.lemmas.Bool.{false≢true}
use Rattle.std.proofs.lemmas.List.{take-append-drop, take-append-le}
use Rattle.dm_base.specs.declared.event.Event.{Event}
use Rattle.dm_base.specs.declared.verdict.Step.{Step}
use Rattle.dm_base.specs.declared.verdict.Step.TheVariants.{Kept}
use Rattle.flow_model.specs.declared.which.Which.{Which}
use Rattle.flow_model.specs.Graph.{Graph}
use Rattle.flow_model.specs.Verdict.{IsAccepted, IsKept, IsStep}
use Rattle.flow_model.proofs.Histories.{take_next}
use Rattle.report.proofs.NextLemmas.{step_not_accepted}
use Rattle.expected_events.specs.Following.{HasKept}

-- the history, the events before a place, and the one at it
pub fed_next : (h t : List Event) (i : ℕ) (e : Event) → i < length t → e ≡ get_or t i e → h ++ take i t ++ e ∷ [] ≡ h ++ take (i + 1) t
fed_next h t i e within next = append_assoc h (take i t) (e ∷ []) ∙ ap (λ w. h ++ w) (take_next t i e within next)

module _ (which : Which) (g : Graph) (bound : ℕ) where
  -- what begins an accepted trace is accepted
  accepted_first : (t u : List Event) → IsAccepted which g bound (t ++ u) → IsAccepted which g bound t
  accepted_first t u accepted = record {
    kept = λ j le. subst (IsKept which g bound) (take-append-le j t u le) (accepted.kept j (omega (arith, le, length-append t u)));
  }

  -- an event that is not kept
  pub fed_refused : (h t : List Event) (i : ℕ) (e : Event) (step : Step) → i < length t → e ≡ get_or t i e → (step ≡ Kept → ⊥) → IsStep which g bound (h ++ take i t ++ e ∷ []) step → IsTrue false ↔ IsAccepted which g bound (h ++ t)
  fed_refused h t i e step within next other told =
      let front = h ++ take (i + 1) t in
      let split : h ++ t ≡ front ++ drop (i + 1) t = ap (λ w. h ++ w) (sym (take-append-drop (i + 1) t)) ∙ sym (append_assoc h (take (i + 1) t) (drop (i + 1) t)) in
      let there = subst (λ w. IsStep which g bound w step) (fed_next h t i e within next) told in (
        λ yes. absurd (false≢true yes),
        λ accepted. absurd (step_not_accepted which g bound front step other there (accepted_first front (drop (i + 1) t) (subst (IsAccepted which g bound) split accepted))),
      )

  -- a run behind the first n events
  module _ (t : List Event) (n m : ℕ) where
    run_next : take n t ++ take (n + m - n) (drop n t) ≡ take (n + m) t
    run_next = let long : n + m - n ≡ m = omega arith in ap (λ k. take n t ++ take k (drop n t)) long ∙ sym (take-add n m t)

    pub run_kept : (Stands : List Event → Type 0) → n + m ≤ length t → Stands (take n t ++ take (n + m - n) (drop n t)) → IsAccepted which g bound (take n t ++ take (n + m - n) (drop n t)) → HasKept Stands which g bound t (n + m)
    run_kept Stands within stands accepted = record {
      within = within;
      stands = subst Stands run_next stands;
      accepted = subst (IsAccepted which g bound) run_next accepted;
    }

    pub run_refused : IsTrue false ↔ IsAccepted which g bound (take n t ++ take (n + m - n) (drop n t)) → IsAccepted which g bound (take (n + m) t) → ⊥
    run_refused exact accepted = false≢true (exact.1 (subst (IsAccepted which g bound) (sym run_next) accepted))
