-- The greatest number of events that a fact is about.
use Rattle.std.proofs.Common.{◌≡◌, ◌⊎◌, ℕ, ◌+◌, ◌<◌, ◌≤◌, List, [], ◌∷◌, ◌++◌, length, take, get_or, Contains, refl, sym, ◌∙◌, subst, inl, inr, arith}
use Rattle.std.proofs.lemmas.List.{take_all, take_more}
use Rattle.std.proofs.lemmas.List.Elements.{Contains-append_left, Contains-push, Contains-push_cases}
use Rattle.certify_facts.specs.declared.fact.FactLine.{FactLine}
use Rattle.certify_making.specs.Ahead.{IsDeeper, IsDeepest, events_of}

pub deepest_none : IsDeepest [] 0
deepest_none = record { least = λ l has. absurd (omega (arith, has.1)); reached = inl refl }

deepest_push : (lines : List FactLine) (l : FactLine) (before after : ℕ) → IsDeepest lines before → IsDeeper before l.fact after → IsDeepest (lines ++ l ∷ []) after
deepest_push lines l before after was (inl (same, le)) = record {
  least = λ k has. elim (Contains-push_cases lines l k has) as (λ _. events_of k.fact ≤ after) [
    | inl there ↦ omega (arith, was.least k there, same)
    | inr here ↦ subst (λ (j : FactLine). events_of j.fact ≤ after) here (omega (arith, le, same))
  ];
  reached = elim was.reached as (λ _. (after ≡ 0) ⊎ ((k : FactLine) × Contains (lines ++ l ∷ []) k × (events_of k.fact ≡ after))) [
    | inl none ↦ inl (same ∙ none)
    | inr (k, has, is) ↦ inr (k, Contains-append_left lines (l ∷ []) k has, is ∙ sym same)
  ];
}
deepest_push lines l before after was (inr (same, le)) = record {
  least = λ k has. elim (Contains-push_cases lines l k has) as (λ _. events_of k.fact ≤ after) [
    | inl there ↦ omega (arith, was.least k there, le)
    | inr here ↦ subst (λ (j : FactLine). events_of j.fact ≤ after) here (omega (arith, same))
  ];
  reached = inr (l, Contains-push lines l, sym same);
}

pub deepest_more : (lines : List FactLine) (i : ℕ) (d : FactLine) (before after : ℕ) → i < length lines → IsDeepest (take i lines) before → IsDeeper before (get_or lines i d).fact after → IsDeepest (take (i + 1) lines) after
deepest_more lines i d before after lt was is = subst (λ ls. IsDeepest ls after) (sym (take_more lines i d lt)) (deepest_push (take i lines) (get_or lines i d) before after was is)

pub deepest_all : (lines : List FactLine) (i n : ℕ) → length lines ≤ i → IsDeepest (take i lines) n → IsDeepest lines n
deepest_all lines i n over is = subst (λ ls. IsDeepest ls n) (take_all i lines over) is
