-- Edges ordered by one number and then by the rest: which numbers may follow, and what is left once one was read.
use Rattle.std.proofs.Common.{◌≡◌, ◌≢◌, ℕ, ◌+◌, ◌<◌, ◌≤◌, List, ◌++◌, refl, sym, ◌∙◌, subst, inl, inr, Contains, arith}
use Rattle.std.specs.Prelude.{Option, Some, None, IfSome, IfNone}
use Rattle.std.specs.declared.cmp.Ordering.{Ordering}
use Rattle.std.specs.declared.cmp.Ordering.TheVariants.{Less}
use Rattle.std.specs.Ordering.{nat_cmp, ordering_then}
use Rattle.std.proofs.lemmas.Bool.{cases_lt}
use Rattle.flow_model.specs.declared.records.SysEdge.{SysEdge}
use Rattle.model_file.specs.SysBounds.{IsAfter, HasNumber, IsLeastBelow}
use Rattle.model_file.proofs.Narrowing.{IsPart, Leads, With, leads_same}
use Rattle.model_file.proofs.Orders.{less_first, less_next, less_cases}

-- by the number, then by the rest
abbrev pub by_number : (SysEdge → ℕ) → (SysEdge → SysEdge → Ordering) → SysEdge → SysEdge → Ordering
by_number number rest d e = ordering_then (nat_cmp (number d) (number e)) (rest d e)

-- some edge with the same number goes after this one
abbrev pub HasRest : (SysEdge → Type 0) → (SysEdge → ℕ) → (SysEdge → SysEdge → Ordering) → SysEdge → Type 0
HasRest Base number rest d = (e : SysEdge) × (Base e × (number e ≡ number d)) × (rest d e ≡ Less)

abbrev pub IsFree : (SysEdge → Type 0) → (SysEdge → ℕ) → ℕ → Type 0
IsFree Base number limit = (n : ℕ) → n < limit → HasNumber Base number n

abbrev pub Fitting : (SysEdge → Type 0) → (SysEdge → ℕ) → (SysEdge → SysEdge → Ordering) → Option SysEdge → SysEdge → Type 0
Fitting Base number rest last e = Base e × IsAfter (by_number number rest) last e

module _ (Base : SysEdge → Type 0) (number : SysEdge → ℕ) (rest : SysEdge → SysEdge → Ordering) (limit : ℕ) (free : IsFree Base number limit) where
  pub least_none : IsLeastBelow limit (HasNumber (Fitting Base number rest None) number) 0
  least_none = record {
    above = λ n from small. let e = free n small in (e.0, (e.1, tt), e.2);
    below = λ n has. omega arith;
  }

  past : (d : SysEdge) (n : ℕ) → number d < n → n < limit → HasNumber (Fitting Base number rest (Some d)) number n
  past d n more small =
      let e = free n small in
      (e.0, (e.1, less_first (number d) (number e.0) (rest d e.0) (omega (arith, e.2))), e.2)

  least_is : (d e : SysEdge) → by_number number rest d e ≡ Less → number d ≤ number e
  least_is d e less = elim (less_cases (number d) (number e) (rest d e) less) [
    | inl lt ↦ omega arith
    | inr same ↦ omega (arith, same.0)
  ]

  pub least_room : (d : SysEdge) → (number d < limit → HasRest Base number rest d) → IsLeastBelow limit (HasNumber (Fitting Base number rest (Some d)) number) (number d)
  least_room d room = record {
    above = λ n from small. elim (cases_lt (number d) n) [
      | inl lt ↦ past d n lt small
      | inr ge ↦
          let same : number d ≡ n = omega arith in
          let e = room (omega arith) in
          (e.0, (e.1.0, less_next (number d) (number e.0) (rest d e.0) (sym e.1.1) e.2), e.1.1 ∙ same)
    ];
    below = λ n has. let low = least_is d has.0 has.1.1 in omega (arith, has.2);
  }

  pub least_full : (d : SysEdge) → (HasRest Base number rest d → ⊥) → IsLeastBelow limit (HasNumber (Fitting Base number rest (Some d)) number) (number d + 1)
  least_full d full = record {
    above = λ n from small. past d n (omega arith) small;
    below = λ n has. beyond n has;
  } where
    beyond : (n : ℕ) → HasNumber (Fitting Base number rest (Some d)) number n → number d + 1 ≤ n
    beyond n (e, fits, is) = elim (less_cases (number d) (number e) (rest d e) fits.1) [
      | inl lt ↦ omega arith
      | inr same ↦ absurd (full (e, (fits.0, sym same.0), same.1))
    ]

-- what is left of the last edge once a number was read
abbrev pub IsTied : (SysEdge → ℕ) → ℕ → Option SysEdge → Option SysEdge → Type 0
IsTied number n last tied = IfSome tied (λ d. (last ≡ Some d) × (number d ≡ n)) × IfNone tied (IfSome last (λ d. number d ≢ n))

-- the orders with the last edge, and with what is left of it, agree
module _ (number : SysEdge → ℕ) (rest : SysEdge → SysEdge → Ordering) where
  pub rest_after : (n : ℕ) (last tied : Option SysEdge) → IsTied number n last tied → (e : SysEdge) → number e ≡ n → IsAfter (by_number number rest) last e → IsAfter rest tied e
  rest_after n last None is_tied e same after = tt
  rest_after n last (Some d) is_tied e same after =
      let after' : by_number number rest d e ≡ Less = subst (λ l. IsAfter (by_number number rest) l e) is_tied.0.0 after in
      elim (less_cases (number d) (number e) (rest d e) after') [
        | inl lt ↦ absurd (omega (arith, is_tied.0.1))
        | inr both ↦ both.1
      ]

  after_none : (n : ℕ) (last : Option SysEdge) → IfSome last (λ d. number d ≢ n) → IfSome last (λ d. number d ≤ n) → (e : SysEdge) → number e ≡ n → IsAfter (by_number number rest) last e
  after_none n None other low e same = tt
  after_none n (Some d) other low e same = less_first (number d) (number e) (rest d e) (omega arith)

  after_rest : (n : ℕ) (last tied : Option SysEdge) → IsTied number n last tied → IfSome last (λ d. number d ≤ n) → (e : SysEdge) → number e ≡ n → IsAfter rest tied e → IsAfter (by_number number rest) last e
  after_rest n last None is_tied low e same after = after_none n last is_tied.1 low e same
  after_rest n last (Some d) is_tied low e same after =
      subst (λ l. IsAfter (by_number number rest) l e) (sym is_tied.0.0) (less_next (number d) (number e) (rest d e) (is_tied.0.1 ∙ sym same) after)

  -- no number below that of the last edge may follow
  low_from : (n : ℕ) (last : Option SysEdge) (e : SysEdge) → number e ≡ n → IsAfter (by_number number rest) last e → IfSome last (λ d. number d ≤ n)
  low_from n None e same after = tt
  low_from n (Some d) e same after = elim (less_cases (number d) (number e) (rest d e) after) [
    | inl lt ↦ omega arith
    | inr both ↦ omega (arith, both.0)
  ]

  -- a number was read
  pub step : (Base : SysEdge → Type 0) (n : ℕ) (last tied : Option SysEdge) {Fits : SysEdge → Type 0} {text after : SysEdge → List ℕ} (old new : List ℕ)
      → Leads Fits text old (With (Fitting Base number rest last) number n) after new
      → HasNumber (Fitting Base number rest last) number n
      → IsTied number n last tied
      → Leads Fits text old (λ e. (Base e × (number e ≡ n)) × IsAfter rest tied e) after new
  step Base n last tied old new leads some is_tied =
      let low = low_from n last some.0 some.2 some.1.1 in
      leads_same old new leads
      (λ e fits. ((fits.0.0, after_rest n last tied is_tied low e fits.0.1 fits.1), fits.0.1))
      (λ e fits. ((fits.0.0, fits.1), rest_after n last tied is_tied e fits.1 fits.0.1))
      (λ e fits. refl)

-- the number as a part
pub number_part : (Base : SysEdge → Type 0) (number : SysEdge → ℕ) (rest : SysEdge → SysEdge → Ordering) (limit least : ℕ) (last : Option SysEdge) (first : ℕ → List ℕ) {left after : SysEdge → List ℕ}
    → IsLeastBelow limit (HasNumber (Fitting Base number rest last) number) least
    → ((e : SysEdge) → Base e → number e < limit)
    → ((e : SysEdge) → Base e → left e ≡ first (number e) ++ after e)
    → ((n : ℕ) → n < limit → Contains (first n) 10 → ⊥)
    → IsPart (Fitting Base number rest last) left number (λ m. (least ≤ m) × (m < limit)) first after
number_part Base number rest limit least last first bound small splits plain = record {
  into = λ e fits. (bound.below (number e) (e, fits, refl), small e fits.0);
  some = λ n in_n. bound.above n in_n.0 in_n.1;
  splits = λ e fits. splits e fits.0;
  plain = λ n in_n. plain n in_n.1;
}

pub tied_number : (number : SysEdge → ℕ) (n : ℕ) (last tied : Option SysEdge) → IsTied number n last tied → IfSome tied (λ d. number d ≡ n)
tied_number number n last None is_tied = tt
tied_number number n last (Some d) is_tied = is_tied.0.1
