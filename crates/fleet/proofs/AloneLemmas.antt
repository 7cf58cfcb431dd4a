-- What a process has come to alone.
use Rattle.std.proofs.Common.{◌≡◌, ℕ, ◌-◌, ◌<◌, ◌≤◌, List, length, take, Some, sym, ◌∙◌, ap, subst, inl, inr, arith}
use Rattle.std.specs.Prelude.{slice_get}
use Rattle.std.proofs.lemmas.Bool.{cases_lt}
use Rattle.dm_base.specs.declared.event.Event.{Event}
use Rattle.dm_base.specs.declared.verdict.Verdict.{Verdict}
use Rattle.dm_base.specs.declared.verdict.Verdict.TheVariants as verdicts
use Rattle.c_meaning.specs.Runs.{Run}
use Rattle.flow_model.specs.declared.which.Which.{Which}
use Rattle.flow_model.specs.Graph.{Graph}
use Rattle.flow_model.specs.Language.{Reads}
use Rattle.flow_model.specs.Verdict.{IsAccepted, IsRejectedAt, IsBoundAt, IsVerdict}
use Rattle.flow_model.proofs.Verdicts.{kept-reads, kept-within, rejected_after, bound_after}
use Rattle.fleet.specs.declared.standing.Standing.{Standing}
use Rattle.fleet.specs.declared.standing.Standing.TheVariants as standings
use Rattle.fleet.specs.Alone.{IsAlone}
use Rattle.fleet.specs.Going.{IsUpToRefusal, number_of}

-- what is accepted is not refused

accepted_not_rejected : (which : Which) (g : Graph) (limit : ℕ) (t : List Event) (m : ℕ) → IsAccepted which g limit t → IsRejectedAt which g limit t m → ⊥
accepted_not_rejected which g limit t m accepted at = at.refused (kept-reads which g limit (take m t) (accepted.kept m at.within))

accepted_not_bound : (which : Which) (g : Graph) (limit : ℕ) (t : List Event) (m : ℕ) → IsAccepted which g limit t → IsBoundAt which g limit t m → ⊥
accepted_not_bound which g limit t m accepted at =
    let few = kept-within which g limit (take m t) at.dyck (accepted.kept m at.within) in
    omega (arith, few, at.deep)

-- two places at which one trace is refused
one_rejected : (which : Which) (g : Graph) (limit : ℕ) (t : List Event) (m n : ℕ) → IsRejectedAt which g limit t m → IsRejectedAt which g limit t n → m < n → ⊥
one_rejected which g limit t m n first later less = first.refused (kept-reads which g limit (take m t) (later.kept m less))

one_bound : (which : Which) (g : Graph) (limit : ℕ) (t : List Event) (m n : ℕ) → IsBoundAt which g limit t m → IsBoundAt which g limit t n → m < n → ⊥
one_bound which g limit t m n first later less =
    let few = kept-within which g limit (take m t) first.dyck (later.kept m less) in
    omega (arith, few, first.deep)

rejected_then_bound : (which : Which) (g : Graph) (limit : ℕ) (t : List Event) (m n : ℕ) → IsRejectedAt which g limit t m → IsBoundAt which g limit t n → ⊥
rejected_then_bound which g limit t m n rejected bound = elim (cases_lt m n) [
  | inl less ↦ rejected.refused (kept-reads which g limit (take m t) (bound.kept m less))
  | inr more ↦ elim (cases_lt n m) [
    | inl less ↦ let few = kept-within which g limit (take n t) bound.dyck (rejected.kept n less) in omega (arith, few, bound.deep)
    | inr equal ↦ let same : m ≡ n = omega arith in rejected.refused (subst (λ (k : ℕ). Reads which g (take k t)) (sym same) bound.read)
  ]
]

same_place : (m n : ℕ) → (m < n → ⊥) → (n < m → ⊥) → m ≡ n
same_place m n one other = elim (cases_lt m n) [
  | inl less ↦ absurd (one less)
  | inr more ↦ elim (cases_lt n m) [ inl less ↦ absurd (other less) | inr equal ↦ omega arith ]
]

same_event : (t : List Event) (m n : ℕ) (e f : Event) → m ≡ n → slice_get t (m - 1) ≡ Some e → slice_get t (n - 1) ≡ Some f → e ≡ f
same_event t m n e f same at_m at_n =
    let both : Some e ≡ Some f = sym at_m ∙ ap (λ k. slice_get t (k - 1)) same ∙ at_n in
    cc

-- the number that the verdict on events up to a refusal tells is how many they are
pub told_number : (which : Which) (g : Graph) (limit : ℕ) (t : List Event) (v : Verdict) → IsVerdict which g limit t v → IsUpToRefusal which g limit t → number_of v ≡ length t
told_number which g limit t (verdicts.Accepted n) is up = is.0
told_number which g limit t (verdicts.Rejected k) is (inl accepted) = absurd (accepted_not_rejected which g limit t k accepted is)
told_number which g limit t (verdicts.Rejected k) is (inr (inl last)) = same_place k (length t) (one_rejected which g limit t k (length t) is last) (one_rejected which g limit t (length t) k last is)
told_number which g limit t (verdicts.Rejected k) is (inr (inr last)) = absurd (rejected_then_bound which g limit t k (length t) is last)
told_number which g limit t (verdicts.Bound k) is (inl accepted) = absurd (accepted_not_bound which g limit t k accepted is)
told_number which g limit t (verdicts.Bound k) is (inr (inl last)) = absurd (rejected_then_bound which g limit t (length t) k last is)
told_number which g limit t (verdicts.Bound k) is (inr (inr last)) = same_place k (length t) (one_bound which g limit t k (length t) is last) (one_bound which g limit t (length t) k last is)

module _ (which : Which) (g : Graph) (limit : ℕ) (run : Run) (k : ℕ) where
  -- what goes on is not refused
  not_rejected : (m : ℕ) → k ≤ length run.trace → IsAccepted which g limit (take k run.trace) → m ≤ k → IsRejectedAt which g limit run.trace m → ⊥
  not_rejected m within accepted le at = let after = rejected_after which g limit run.trace k within accepted m at in omega arith

  not_bound : (m : ℕ) → k ≤ length run.trace → IsAccepted which g limit (take k run.trace) → m ≤ k → IsBoundAt which g limit run.trace m → ⊥
  not_bound m within accepted le at = let after = bound_after which g limit run.trace k within accepted m at in omega arith

  same_standing : (m n : ℕ) (e f : Event) (make : ℕ → Event → Standing) → m ≡ n → e ≡ f → make m e ≡ make n f
  same_standing m n e f make places events = ap (λ (x : ℕ). make x e) places ∙ ap (make n) events

  pub one_alone : (s r : Standing) → IsAlone which g limit run k s → IsAlone which g limit run k r → s ≡ r
  one_alone (standings.Open n) (standings.Open m) a b = ap standings.Open (a.0 ∙ sym b.0)
  one_alone (standings.Open n) (standings.Ended m o) a b = absurd (omega (arith, a.1, b.0, b.1))
  one_alone (standings.Open n) (standings.Rejected m e) a b = absurd (not_rejected m a.1 a.2 b.1 b.2)
  one_alone (standings.Open n) (standings.Bound m e) a b = absurd (not_bound m a.1 a.2 b.1 b.2)
  one_alone (standings.Ended m o) (standings.Open n) a b = absurd (omega (arith, b.1, a.0, a.1))
  one_alone (standings.Ended m o) (standings.Ended n q) a b = ap (λ (x : ℕ). standings.Ended x o) (a.0 ∙ sym b.0) ∙ ap (standings.Ended n) (a.3 ∙ sym b.3)
  one_alone (standings.Ended m o) (standings.Rejected n e) a b = absurd (accepted_not_rejected which g limit run.trace n a.2 b.2)
  one_alone (standings.Ended m o) (standings.Bound n e) a b = absurd (accepted_not_bound which g limit run.trace n a.2 b.2)
  one_alone (standings.Rejected m e) (standings.Open n) a b = absurd (not_rejected m b.1 b.2 a.1 a.2)
  one_alone (standings.Rejected m e) (standings.Ended n o) a b = absurd (accepted_not_rejected which g limit run.trace m b.2 a.2)
  one_alone (standings.Rejected m e) (standings.Rejected n f) a b =
      let same = same_place m n (one_rejected which g limit run.trace m n a.2 b.2) (one_rejected which g limit run.trace n m b.2 a.2) in
      same_standing m n e f standings.Rejected same (same_event run.trace m n e f same a.3 b.3)
  one_alone (standings.Rejected m e) (standings.Bound n f) a b = absurd (rejected_then_bound which g limit run.trace m n a.2 b.2)
  one_alone (standings.Bound m e) (standings.Open n) a b = absurd (not_bound m b.1 b.2 a.1 a.2)
  one_alone (standings.Bound m e) (standings.Ended n o) a b = absurd (accepted_not_bound which g limit run.trace m b.2 a.2)
  one_alone (standings.Bound m e) (standings.Rejected n f) a b = absurd (rejected_then_bound which g limit run.trace n m b.2 a.2)
  one_alone (standings.Bound m e) (standings.Bound n f) a b =
      let same = same_place m n (one_bound which g limit run.trace m n a.2 b.2) (one_bound which g limit run.trace n m b.2 a.2) in
      same_standing m n e f standings.Bound same (same_event run.trace m n e f same a.3 b.3)
