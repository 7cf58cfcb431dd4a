-- Verdicts on a trace, and on the first parts of it.
use Rattle.std.proofs.Common.{◌≡◌, ℕ, ◌+◌, ◌<◌, ◌≤◌, List, [], ◌∷◌, ◌++◌, length, take, get_or, sym, ◌∙◌, ap, subst, inl, inr, arith}
use Rattle.std.proofs.lemmas.List.{take-take, length-take}
use Rattle.std.proofs.lemmas.Bool.{cases_lt}
use Rattle.dm_base.specs.declared.event.Event.{Event}
use Rattle.dm_base.specs.declared.verdict.Step.{Step}
use Rattle.dm_base.specs.declared.verdict.Step.TheVariants.{Rejected, Bound}
use Rattle.dm_base.specs.Trace.{depth}
use Rattle.flow_model.specs.declared.which.Which.{Which}
use Rattle.flow_model.specs.declared.which.Which.TheVariants.{Callgraph, Stack, Dyck}
use Rattle.flow_model.specs.Graph.{Graph}
use Rattle.flow_model.specs.Language.{Reads}
use Rattle.flow_model.specs.Verdict.{IsKept, IsAccepted, IsRejectedAt, IsBoundAt, IsStep}
use Rattle.flow_model.proofs.Histories.{take_next, accepted_more, rejected_more}

-- what is kept is in the language
pub kept-reads : (which : Which) (g : Graph) (bound : ℕ) (t : List Event) → IsKept which g bound t → Reads which g t
kept-reads Callgraph g bound t kept = kept
kept-reads Stack g bound t kept = kept
kept-reads Dyck g bound t kept = kept.0

-- what the Dyck model keeps is no deeper than the bound
pub kept-within : (which : Which) (g : Graph) (bound : ℕ) (t : List Event) → which ≡ Dyck → IsKept which g bound t → depth t ≤ bound
kept-within Callgraph g bound t is kept = absurd (cc)
kept-within Stack g bound t is kept = absurd (cc)
kept-within Dyck g bound t is kept = kept.1

module _ (which : Which) (g : Graph) (bound : ℕ) (t : List Event) (n : ℕ) where
  -- what is refused of a first part is refused of the whole
  pub rejected_of_part : (k : ℕ) → IsRejectedAt which g bound (take n t) k → IsRejectedAt which g bound t k
  rejected_of_part k at =
      let le : k ≤ n = omega (arith, at.within, length-take n t) in
      record {
        within = omega (arith, at.within, length-take n t);
        kept = λ j lt. let below : j ≤ n = omega arith in subst (IsKept which g bound) (take-take j n t below) (at.kept j lt);
        refused = λ read. at.refused (subst (Reads which g) (sym (take-take k n t le)) read);
      }

  pub bound_of_part : (k : ℕ) → IsBoundAt which g bound (take n t) k → IsBoundAt which g bound t k
  bound_of_part k at =
      let le : k ≤ n = omega (arith, at.within, length-take n t) in
      record {
        dyck = at.dyck;
        within = omega (arith, at.within, length-take n t);
        kept = λ j lt. let below : j ≤ n = omega arith in subst (IsKept which g bound) (take-take j n t below) (at.kept j lt);
        read = subst (Reads which g) (take-take k n t le) at.read;
        deep = ap depth (sym (take-take k n t le)) ∙ at.deep;
      }

  -- what is refused comes after an accepted first part
  pub rejected_after : n ≤ length t → IsAccepted which g bound (take n t) → (k : ℕ) → IsRejectedAt which g bound t k → n < k
  rejected_after le accepted k at =
      elim (cases_lt n k) as (λ s. n < k) [
        | inl lt ↦ lt
        | inr ge ↦ let short : k ≤ length (take n t) = omega (arith, length-take n t) in
            absurd (at.refused (kept-reads which g bound (take k t) (subst (IsKept which g bound) (take-take k n t ge) (accepted.kept k short))))
      ]

  pub bound_after : n ≤ length t → IsAccepted which g bound (take n t) → (k : ℕ) → IsBoundAt which g bound t k → n < k
  bound_after le accepted k at =
      elim (cases_lt n k) as (λ s. n < k) [
        | inl lt ↦ lt
        | inr ge ↦ let short : k ≤ length (take n t) = omega (arith, length-take n t) in
            let few : depth (take k t) ≤ bound = kept-within which g bound (take k t) at.dyck (subst (IsKept which g bound) (take-take k n t ge) (accepted.kept k short)) in
            absurd (omega (arith, at.deep))
      ]

-- so it is the next event
pub rejected_next : (which : Which) (g : Graph) (bound : ℕ) (t : List Event) (n : ℕ) → n + 1 ≤ length t → IsAccepted which g bound (take n t) → IsStep which g bound (take (n + 1) t) Rejected → IsRejectedAt which g bound t (n + 1)
rejected_next which g bound t n le accepted step =
    let at : IsRejectedAt which g bound t step.0 = rejected_of_part which g bound t (n + 1) step.0 step.1 in
    let less : n ≤ length t = omega arith in
    let after : n < step.0 = rejected_after which g bound t n less accepted step.0 at in
    let within : step.0 ≤ n + 1 = omega (arith, step.1.within, length-take (n + 1) t) in
    let is : step.0 ≡ n + 1 = omega arith in
    subst (IsRejectedAt which g bound t) is at

pub bound_next : (which : Which) (g : Graph) (bound : ℕ) (t : List Event) (n : ℕ) → n + 1 ≤ length t → IsAccepted which g bound (take n t) → IsStep which g bound (take (n + 1) t) Bound → IsBoundAt which g bound t (n + 1)
bound_next which g bound t n le accepted step =
    let at : IsBoundAt which g bound t step.0 = bound_of_part which g bound t (n + 1) step.0 step.1 in
    let less : n ≤ length t = omega arith in
    let after : n < step.0 = bound_after which g bound t n less accepted step.0 at in
    let within : step.0 ≤ n + 1 = omega (arith, step.1.within, length-take (n + 1) t) in
    let is : step.0 ≡ n + 1 = omega arith in
    subst (IsBoundAt which g bound t) is at

-- What a loop over the events sees: those before have been accepted, and this is the next one.
module _ (which : Which) (g : Graph) (bound : ℕ) (t : List Event) (n : ℕ) (event : Event) (lt : n < length t) (next : event ≡ get_or t n event) where
  pub accepted_here : IsAccepted which g bound (take n t) → IsKept which g bound (take n t ++ event ∷ []) → IsAccepted which g bound (take (n + 1) t)
  accepted_here accepted kept = subst (IsAccepted which g bound) (take_next t n event lt next) (accepted_more which g bound (take n t) event accepted kept)

  pub refused_here : IsAccepted which g bound (take n t) → (Reads which g (take n t ++ event ∷ []) → ⊥) → IsRejectedAt which g bound t (n + 1)
  refused_here accepted refused =
      let at = rejected_more which g bound (take n t) event accepted refused in
      let within : n + 1 ≤ length t = omega arith in
      rejected_next which g bound t n within accepted (length (take n t) + 1, subst (λ u. IsRejectedAt which g bound u (length (take n t) + 1)) (take_next t n event lt next) at)

  pub rejected_here : (step : Step) → step ≡ Rejected → IsAccepted which g bound (take n t) → IsStep which g bound (take n t ++ event ∷ []) step → IsRejectedAt which g bound t (n + 1)
  rejected_here step is accepted told =
      let within : n + 1 ≤ length t = omega arith in
      rejected_next which g bound t n within accepted (subst (λ s. IsStep which g bound (take (n + 1) t) s) is (subst (λ u. IsStep which g bound u step) (take_next t n event lt next) told))

  pub bound_here : (step : Step) → step ≡ Bound → IsAccepted which g bound (take n t) → IsStep which g bound (take n t ++ event ∷ []) step → IsBoundAt which g bound t (n + 1)
  bound_here step is accepted told =
      let within : n + 1 ≤ length t = omega arith in
      bound_next which g bound t n within accepted (subst (λ s. IsStep which g bound (take (n + 1) t) s) is (subst (λ u. IsStep which g bound u step) (take_next t n event lt next) told))
