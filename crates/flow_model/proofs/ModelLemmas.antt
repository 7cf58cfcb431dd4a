-- A call edge found by its site, and how many functions there can be.
use Rattle.std.proofs.Common.{◌≡◌, ℕ, zero, suc, ◌+◌, ◌<◌, ◌≤◌, Bool, true, false, nat_eq, List, [], ◌∷◌, length, get_or, find, Some, None, Result, Ok, Err, refl, sym, ◌∙◌, ap, inl, inr, arith}
use Rattle.std.specs.Prelude.{All, AllPairs}
use Rattle.std.specs.List.Sorted.{IsBinarySearchResult, IsSearchInRange, IsSortedBy}
use Rattle.std.specs.Ordering.{nat_cmp, is_lt}
use Rattle.std.specs.Result.{result_ok}
use Rattle.std.specs.declared.cmp.Ordering.TheVariants.{Less, Equal, Greater}
use Rattle.std.proofs.lemmas.Bool.{cases_lt, eq-eqb, ne_eqb, le-ltb}
use Rattle.std.proofs.lemmas.Cmp.{nat_cmp_total}
use Rattle.std.proofs.lemmas.List.Elements.{All-head, All-tail}
use Rattle.std.proofs.lemmas.List.Sorted.{searchable_from_sorted}
use Rattle.flow_model.specs.declared.records.ModelFunction.{ModelFunction}
use Rattle.flow_model.specs.Call.{Call}
use Rattle.flow_model.specs.Order.{StrictlyRise, site_order}
use Rattle.flow_model.specs.Rules.{HasRightEntries}
use Rattle.flow_model.proofs.OrderLemmas.{numbers_tie, lt_from_less, less_by_order}

-- the first item that passes
find_first : {X : Type 0} (p : X → Bool) (xs : List X) (i : ℕ) (d : X) → i < length xs → p (get_or xs i d) ≡ true → ((k : ℕ) → k < i → p (get_or xs k d) ≡ false) → find p xs ≡ Some (get_or xs i d)
find_first p [] i d within passes before = absurd (omega arith)
find_first p (x ∷ xs) zero d within passes before = rw passes
find_first p (x ∷ xs) (suc i) d within passes before =
    let first : p x ≡ false = before 0 (omega arith) in
    rw first (find_first p xs i d (omega arith) passes (λ k h. before (suc k) (omega arith)))

find_none : {X : Type 0} (p : X → Bool) (xs : List X) → All (λ x. p x ≡ false) xs → find p xs ≡ None
find_none p [] all = refl
find_none p (x ∷ xs) all = let first : p x ≡ false = All-head (λ x. p x ≡ false) x xs all in rw first (find_none p xs (All-tail (λ x. p x ≡ false) x xs all))

module _ (calls : List Call) (site : ℕ) (rise : StrictlyRise site_order calls) where
  sorted : IsSortedBy (λ c d. is_lt (nat_cmp c.site d.site)) calls
  sorted k d low h =
      let less = lt_from_less (get_or calls k d).site (get_or calls (k + 1) d).site (rise k (k + 1) d (omega arith) h) in
      sym (less_by_order (get_or calls (k + 1) d).site (get_or calls k d).site) ∙ le-ltb (get_or calls (k + 1) d).site (get_or calls k d).site (omega arith)

  other : (c : Call) → (nat_cmp c.site site ≡ Equal → ⊥) → nat_eq c.site site ≡ false
  other c differ = ne_eqb c.site site (λ same. differ ((numbers_tie c.site site).1 same))

  -- what a search by the site finds is the call with that site
  pub call_found : (r : Result ℕ ℕ) (place : ℕ) (c : Call) → result_ok r ≡ Some place → IsSearchInRange r (length calls) → IsBinarySearchResult (λ c. nat_cmp c.site site) calls r → c ≡ get_or calls place c → Some c ≡ find (λ c. nat_eq c.site site) calls
  call_found (Err e) place c found within position at = cc
  call_found (Ok i) place c found within position at =
      let same : i ≡ place = cc in
      let here : place < length calls = omega arith in
      let tie : nat_cmp (get_or calls i c).site site ≡ Equal = position c in
      let is_site : (get_or calls i c).site ≡ site = (numbers_tie _ _).0 tie in
      let first : find (λ c. nat_eq c.site site) calls ≡ Some (get_or calls i c) =
      find_first (λ c. nat_eq c.site site) calls i c within (eq-eqb _ _ is_site)
      (λ k h.
      let less = lt_from_less (get_or calls k c).site (get_or calls i c).site (rise k i c h within) in
      ne_eqb (get_or calls k c).site site (λ again. omega arith)) in
      ap Some (at ∙ ap (λ k. get_or calls k c) (sym same)) ∙ sym first

  -- where the search finds nothing, there is no call with that site
  pub call_missing : (r : Result ℕ ℕ) → result_ok r ≡ None → IsBinarySearchResult (λ c. nat_cmp c.site site) calls r → None ≡ find (λ c. nat_eq c.site site) calls
  call_missing (Ok i) missing position = cc
  call_missing (Err i) missing position =
      let parts = position (searchable_from_sorted nat_cmp_total (λ c. c.site) calls site sorted) in
      sym (find_none (λ c. nat_eq c.site site) calls (λ k d h.
      elim (cases_lt k i) [
        | inl before ↦ let less : nat_cmp (get_or calls k d).site site ≡ Less = parts.0 k d (omega arith) before in other (get_or calls k d) (λ tie. cc)
        | inr after ↦ let greater : nat_cmp (get_or calls k d).site site ≡ Greater = parts.1 k d after h in other (get_or calls k d) (λ tie. cc)
      ]))

entry_far : (functions : List ModelFunction) → AllPairs (λ d e. d.entry < e.entry) functions → (k : ℕ) (d : ModelFunction) → k < length functions → k ≤ (get_or functions k d).entry
entry_far functions rise zero d h = omega arith
entry_far functions rise (suc k) d h =
    let before = entry_far functions rise k d (omega arith) in
    let above : (get_or functions k d).entry < (get_or functions (suc k) d).entry = rise k (suc k) d (omega arith) h in
    omega arith

-- there are no more functions than nodes
pub functions_few : (functions : List ModelFunction) (nodes : ℕ) → HasRightEntries functions nodes → length functions ≤ nodes
functions_few [] nodes right = omega arith
functions_few (one ∷ rest) nodes right =
    let last = length rest in
    let far = entry_far (one ∷ rest) right.rise last one (omega arith) in
    let below : (get_or (one ∷ rest) last one).entry < nodes = right.below last one (omega arith) in
    omega arith
