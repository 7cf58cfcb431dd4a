-- A history, and the same history with one event more.
use Rattle.std.proofs.Common.{◌≡◌, ℕ, ◌+◌, ◌<◌, ◌≤◌, List, [], ◌∷◌, ◌++◌, length, take, get_or, refl, sym, ◌∙◌, ap, subst, inl, inr, append-nil, length-append, arith}
use Rattle.std.proofs.lemmas.List.{take_all, take_more, take-append-le}
use Rattle.std.proofs.lemmas.Bool.{cases_lt}
use Rattle.dm_base.specs.declared.event.Event.{Event}
use Rattle.dm_base.specs.declared.event.Event.TheVariants.{Sys, Pre, Post}
use Rattle.dm_base.specs.Trace.{erase, depth}
use Rattle.flow_model.specs.declared.which.Which.{Which}
use Rattle.flow_model.specs.declared.which.Which.TheVariants.{Dyck}
use Rattle.flow_model.specs.Graph.{Graph}
use Rattle.flow_model.specs.Language.{Reads}
use Rattle.flow_model.specs.Verdict.{IsKept, IsAccepted, IsRejectedAt, IsBoundAt}

-- null calls are left out of each part by itself
pub erase-append : (t u : List Event) → erase (t ++ u) ≡ erase t ++ erase u
erase-append [] u = refl
erase-append (Sys name arguments outcome ∷ t) u = ap (λ w. Sys name arguments outcome ∷ w) (erase-append t u)
erase-append (Pre site ∷ t) u = erase-append t u
erase-append (Post site ∷ t) u = erase-append t u

-- an event that is left out leaves the rest as it was
pub erase-null : (t : List Event) (e : Event) → erase (e ∷ []) ≡ [] → erase (t ++ e ∷ []) ≡ erase t
erase-null t e null = erase-append t (e ∷ []) ∙ ap (λ w. erase t ++ w) null ∙ append-nil (erase t)

-- the events before a place, and the one at it
pub take_next : (t : List Event) (n : ℕ) (event : Event) → n < length t → event ≡ get_or t n event → take n t ++ event ∷ [] ≡ take (n + 1) t
take_next t n event lt next = ap (λ e. take n t ++ e ∷ []) next ∙ sym (take_more t n event lt)

module _ (which : Which) (g : Graph) (bound : ℕ) where
  -- before the first event
  pub accepted_nothing : IsKept which g bound [] → IsAccepted which g bound []
  accepted_nothing kept = record { kept = λ j le. subst (IsKept which g bound) (sym (take_all j [] (omega arith))) kept }

  -- an accepted history is itself kept
  pub accepted_whole : (h : List Event) → IsAccepted which g bound h → IsKept which g bound h
  accepted_whole h accepted =
      let all : length h ≤ length h = omega arith in
      subst (IsKept which g bound) (take_all (length h) h all) (accepted.kept (length h) all)

module _ (which : Which) (g : Graph) (bound : ℕ) (h : List Event) (e : Event) where
  kept_before : (j : ℕ) → j ≤ length h → IsAccepted which g bound h → IsKept which g bound (take j (h ++ e ∷ []))
  kept_before j le accepted = subst (IsKept which g bound) (sym (take-append-le j h (e ∷ []) le)) (accepted.kept j le)

  -- the event is kept too
  pub accepted_more : IsAccepted which g bound h → IsKept which g bound (h ++ e ∷ []) → IsAccepted which g bound (h ++ e ∷ [])
  accepted_more accepted kept = record {
    kept = λ j le. elim (cases_lt (length h) j) as (λ _. IsKept which g bound (take j (h ++ e ∷ []))) [
      | inl more ↦ let all : length (h ++ e ∷ []) ≤ j = omega (arith, length-append h (e ∷ [])) in
          subst (IsKept which g bound) (sym (take_all j (h ++ e ∷ []) all)) kept
      | inr less ↦ kept_before j less accepted
    ];
  }

  -- the event is the first that leaves the language
  pub rejected_more : IsAccepted which g bound h → (Reads which g (h ++ e ∷ []) → ⊥) → IsRejectedAt which g bound (h ++ e ∷ []) (length h + 1)
  rejected_more accepted refused =
      let all : length (h ++ e ∷ []) ≤ length h + 1 = omega (arith, length-append h (e ∷ [])) in
      record {
        within = omega (arith, length-append h (e ∷ []));
        kept = λ j lt. let less : j ≤ length h = omega arith in kept_before j less accepted;
        refused = λ read. refused (subst (Reads which g) (take_all (length h + 1) (h ++ e ∷ []) all) read);
      }

  -- what was refused before stays refused
  pub rejected_stays : (k : ℕ) → IsRejectedAt which g bound h k → IsRejectedAt which g bound (h ++ e ∷ []) k
  rejected_stays k at =
      let same : take k (h ++ e ∷ []) ≡ take k h = take-append-le k h (e ∷ []) at.within in
      record {
        within = omega (arith, at.within, length-append h (e ∷ []));
        kept = λ j lt. let less : j ≤ length h = omega (arith, at.within) in subst (IsKept which g bound) (sym (take-append-le j h (e ∷ []) less)) (at.kept j lt);
        refused = λ read. at.refused (subst (Reads which g) same read);
      }

  -- the event is the first that opens a call too many
  pub bound_more : which ≡ Dyck → IsAccepted which g bound h → Reads which g (h ++ e ∷ []) → depth (h ++ e ∷ []) ≡ bound + 1 → IsBoundAt which g bound (h ++ e ∷ []) (length h + 1)
  bound_more dyck accepted read deep =
      let all : length (h ++ e ∷ []) ≤ length h + 1 = omega (arith, length-append h (e ∷ [])) in
      let same : take (length h + 1) (h ++ e ∷ []) ≡ h ++ e ∷ [] = take_all (length h + 1) (h ++ e ∷ []) all in
      record {
        dyck = dyck;
        within = omega (arith, length-append h (e ∷ []));
        kept = λ j lt. let less : j ≤ length h = omega arith in kept_before j less accepted;
        read = subst (Reads which g) (sym same) read;
        deep = ap depth same ∙ deep;
      }

  -- where the bound was passed before, it stays passed
  pub bound_stays : (k : ℕ) → IsBoundAt which g bound h k → IsBoundAt which g bound (h ++ e ∷ []) k
  bound_stays k at =
      let same : take k (h ++ e ∷ []) ≡ take k h = take-append-le k h (e ∷ []) at.within in
      record {
        dyck = at.dyck;
        within = omega (arith, at.within, length-append h (e ∷ []));
        kept = λ j lt. let less : j ≤ length h = omega (arith, at.within) in subst (IsKept which g bound) (sym (take-append-le j h (e ∷ []) less)) (at.kept j lt);
        read = subst (Reads which g) (sym same) at.read;
        deep = ap depth same ∙ at.deep;
      }
