-- What the checks of reasons say.
use Rattle.std.proofs.Common.{◌≡◌, ◌↔◌, ℕ, ◌+◌, ◌-◌, ◌<◌, ◌≤◌, Bool, false, IsTrue, List, length, take, get_or, Some, None, slice_get, refl, sym, ◌∙◌, ap, subst, inl, inr, arith}
use Rattle.std.specs.Prelude.{option_map}
use Rattle.std.proofs.lemmas.Bool.{cases_lt}
use Rattle.std.proofs.lemmas.List.{length-take, get_or-take}
use Rattle.std.proofs.lemmas.Option.{slice_get-map, slice_get-get_or, get_or_from_slice_get}
use Rattle.dm_base.specs.declared.event.Event.{Event}
use Rattle.flow_model.specs.Graph.{Graph}
use Rattle.certify_facts.specs.declared.fact.Fact.{Fact}
use Rattle.certify_facts.specs.declared.fact.FactLine.{FactLine}
use Rattle.certify_facts.specs.Confirms.{HoldsAt, facts_of}
use Rattle.certify_facts.specs.Reasons.{IsNamed, HasReason, IsReturnedAlong}

-- the fact with a number among the first lines
pub named_at : (lines : List FactLine) (before r : ℕ) (d : FactLine) → 1 ≤ r → r ≤ before → before ≤ length lines → (x : Fact) → (Some (get_or lines (r - 1) d).fact ≡ Some x) ↔ IsNamed (facts_of (take before lines)) r x
named_at lines before r d some le within x =
    let lt : r - 1 < before = omega arith in
    let short : r - 1 < length (take before lines) = omega (arith, length-take before lines) in
    let there : slice_get (take before lines) (r - 1) ≡ Some (get_or lines (r - 1) d) = slice_get-get_or (take before lines) (r - 1) d short ∙ ap Some (get_or-take before lines (r - 1) d lt) in
    let at : slice_get (facts_of (take before lines)) (r - 1) ≡ Some (get_or lines (r - 1) d).fact = slice_get-map (λ l. l.fact) (take before lines) (r - 1) ∙ ap (λ o. option_map (λ (l : FactLine). l.fact) o) there in
    (λ same. (some, at ∙ same), λ named. sym at ∙ named.1)

-- a reason that names one fact
module _ (earlier : List Fact) (r : ℕ) (P : Fact → Type 0) where
  pub reason_some : (x : Fact) (b : Bool) → ((z : Fact) → (Some x ≡ Some z) ↔ IsNamed earlier r z) → (IsTrue b ↔ P x) → IsTrue b ↔ ((z : Fact) × IsNamed earlier r z × P z)
  reason_some x b named is = (
    λ yes. (x, (named x).0 refl, is.0 yes),
    λ (z, has, p). let both : Some x ≡ Some z = (named z).1 has in let same : x ≡ z = cc in is.1 (subst P (sym same) p),
  )

  pub reason_none : ((z : Fact) → (None ≡ Some z) ↔ IsNamed earlier r z) → IsTrue false ↔ ((z : Fact) × IsNamed earlier r z × P z)
  reason_none named = (λ yes. absurd cc, λ (z, has, p). let both : None ≡ Some z = (named z).1 has in absurd cc)

-- the fact that is returned to is the one that is asked for
pub along_some : (g : Graph) (x z y found : Fact) (b : Bool) → IsReturnedAlong g x z found → ((w : Fact) → IsReturnedAlong g x z w → Some found ≡ Some w) → (IsTrue b ↔ (found ≡ y)) → IsTrue b ↔ IsReturnedAlong g x z y
along_some g x z y found b some only is = (
  λ yes. subst (IsReturnedAlong g x z) (is.0 yes) some,
  λ along. let both : Some found ≡ Some y = only y along in let same : found ≡ y = cc in is.1 same,
)

pub along_none : (g : Graph) (x z y : Fact) → ((w : Fact) → IsReturnedAlong g x z w → None ≡ Some w) → IsTrue false ↔ IsReturnedAlong g x z y
along_none g x z y only = (λ yes. absurd cc, λ along. let both : None ≡ Some y = only y along in absurd cc)

-- the reason of the line at a place
pub holds_by : (g : Graph) (t : List Event) (lines : List FactLine) (n : ℕ) (d : FactLine) (b : Bool) → n < length lines
    → (IsTrue b ↔ HasReason g t (facts_of (take n lines)) (get_or lines n d).reason (get_or lines n d).fact) → IsTrue b ↔ HoldsAt g t lines n
holds_by g t lines n d b lt is = (
  λ yes line at. subst (λ (l : FactLine). HasReason g t (facts_of (take n lines)) l.reason l.fact) (get_or_from_slice_get lines n line d at) (is.0 yes),
  λ holds. is.1 (holds (get_or lines n d) (slice_get-get_or lines n d lt)),
)

-- one line more
pub hold_more : (g : Graph) (t : List Event) (lines : List FactLine) (n : ℕ) → ((j : ℕ) → j < n → HoldsAt g t lines j) → HoldsAt g t lines n → (j : ℕ) → j < n + 1 → HoldsAt g t lines j
hold_more g t lines n before here j lt = elim (cases_lt j n) as (λ _. HoldsAt g t lines j) [
  | inl less ↦ before j less
  | inr ge ↦ subst (HoldsAt g t lines) (let e : n ≡ j = omega arith in e) here
]
