-- How far a trace was followed: to its end, or to an event that is not kept.
use Rattle.std.proofs.Common.{◌≡◌, ◌-◌, ℕ, ◌+◌, ◌<◌, ◌≤◌, List, [], ◌∷◌, ◌++◌, length, take, drop, get_or, Some, slice_get, refl, sym, ◌∙◌, ap, subst, arith}
use Rattle.std.proofs.lemmas.List.{take_all, take_rest, get_or-drop, length-drop}
use Rattle.std.proofs.lemmas.Option.{slice_get_past, slice_get_read}
use Rattle.dm_base.specs.declared.event.Event.{Event}
use Rattle.dm_base.specs.declared.verdict.Step.{Step}
use Rattle.dm_base.specs.declared.verdict.Step.TheVariants.{Kept, Rejected, Bound}
use Rattle.dm_base.specs.declared.verdict.Verdict.{Verdict}
use Rattle.flow_model.specs.declared.which.Which.{Which}
use Rattle.flow_model.specs.Graph.{Graph}
use Rattle.flow_model.specs.Verdict.{IsAccepted, IsStep}
use Rattle.flow_model.proofs.Verdicts.{rejected_here, bound_here}
use Rattle.expected_events.specs.Following.{HasKept, IsFollowed, verdict_at}

-- the events from the s-th on, at a place
pub rest_item : (t : List Event) (s i n : ℕ) (e : Event) → n ≡ s + i → i < length (take (length t - s) (drop s t)) → e ≡ get_or (take (length t - s) (drop s t)) i e → (n < length t) × (e ≡ get_or t n e)
rest_item t s i n e at within next =
    let rest = take_rest t s in
    let long : i < length (drop s t) = subst (λ u. i < length u) rest within in (
      omega (arith, at, long, length-drop s t),
      next ∙ ap (λ u. get_or u i e) rest ∙ get_or-drop s t i e ∙ ap (λ j. get_or t j e) (sym at),
    )

pub rest_end : (t : List Event) (s i n : ℕ) → n ≡ s + i → length (take (length t - s) (drop s t)) ≤ i → length t ≤ n
rest_end t s i n at past =
    let long : length (drop s t) ≤ i = subst (λ u. length u ≤ i) (take_rest t s) past in
    omega (arith, at, long, length-drop s t)

module _ (Stands : List Event → Type 0) (which : Which) (g : Graph) (bound : ℕ) (t : List Event) where
  -- all events were kept
  pub followed_whole : (n : ℕ) (v : Verdict) → v ≡ verdict_at Kept n → HasKept Stands which g bound t n → length t ≤ n → IsFollowed Stands which g bound t n v
  followed_whole n v told kept past = subst (IsFollowed Stands which g bound t n) (sym told) record {
    stands = kept.stands;
    accepted = kept.accepted;
    verdict = (omega (arith, kept.within, past), subst (IsAccepted which g bound) (take_all n t past) kept.accepted);
    part = take_all n t past;
    event = slice_get_past t n past;
    given = slice_get_past t n past;
  }

  -- the next one is not kept
  module _ (n : ℕ) (e : Event) (within : n < length t) (next : e ≡ get_or t n e) (stands : Stands (take n t)) (accepted : IsAccepted which g bound (take n t)) where
    before : n ≡ n + 1 - 1
    before = omega arith

    here : slice_get t n ≡ Some e
    here = slice_get_read t (length t) n e refl within next

    part : (step : Step) → (step ≡ Kept → ⊥) → IsStep which g bound (take n t ++ e ∷ []) step → IsFollowed Stands which g bound t n (verdict_at step (n + 1))
    part Kept other told = absurd (other refl)
    part Rejected other told = record {
      stands = stands;
      accepted = accepted;
      verdict = rejected_here which g bound t n e within next Rejected refl accepted told;
      part = ap (λ k. take k t) before;
      event = ap (slice_get t) before;
      given = (e, here);
    }
    part Bound other told = record {
      stands = stands;
      accepted = accepted;
      verdict = bound_here which g bound t n e within next Bound refl accepted told;
      part = ap (λ k. take k t) before;
      event = ap (slice_get t) before;
      given = (e, here);
    }

    pub followed_part : (v : Verdict) (step : Step) → v ≡ verdict_at step (n + 1) → (step ≡ Kept → ⊥) → IsStep which g bound (take n t ++ e ∷ []) step → IsFollowed Stands which g bound t n v
    followed_part v step is other told = subst (IsFollowed Stands which g bound t n) (sym is) (part step other told)
