-- What leaves a node, and the call of a site, in a valid model.
use Rattle.std.proofs.Common.{◌≡◌, ℕ, ◌+◌, ◌<◌, ◌≤◌, nat_eq, List, length, get_or, Contains, Some, None, find, slice_get, refl, sym, ◌∙◌, ap, subst, inl, inr, arith}
use Rattle.std.proofs.lemmas.Bool.{cases_lt, eq-eqb, eqb-true}
use Rattle.std.proofs.lemmas.Option.{slice_get_within, slice_get-get_or}
use Rattle.flow_model.specs.declared.records.ModelFunction.{ModelFunction}
use Rattle.flow_model.specs.Call.{Call}
use Rattle.flow_model.specs.Graph.{Graph, Owns, end_of}
use Rattle.flow_model.specs.Rules.{IsValid, HasRightEntries, HasOwnExits}
use Rattle.stack_automaton.specs.Following.{AreBegun, EndsAt, IsCallAt}
pub use Rattle.flow_model.proofs.AllAt.{all_at}
pub use Rattle.flow_model.proofs.OwnersBelow.{contains_none, owner_below, silent_below, sys_below, call_below}
pub use Rattle.flow_model.proofs.EdgesFound.{contains_filter, find_some, find_none, contains_map, from_node, sites_at, owned_below, one_owner, one_call, end_before}

-- what a search by the site finds
module _ (g : Graph) (valid : IsValid g) (site : ℕ) where
  pub call_is : (c : Call) → find (λ c. nat_eq c.site site) g.calls ≡ Some c → IsCallAt g site c
  call_is c found =
      let (has, passes) = find_some (λ c. nat_eq c.site site) g.calls c found in
      let at : c.site ≡ site = eqb-true c.site site passes in
      record { has = has; at = at; only = λ d in_calls is. one_call g valid d c in_calls has (is ∙ sym at) }

  pub call_is_not : find (λ c. nat_eq c.site site) g.calls ≡ None → (c : Call) → Contains g.calls c → c.site ≡ site → ⊥
  call_is_not none c has is = find_none (λ c. nat_eq c.site site) g.calls c none has (eq-eqb c.site site is)

-- Where a function ends at the node, it is the last that begins there or before.
module _ (functions : List ModelFunction) (nodes node count : ℕ) (right : HasRightEntries functions nodes) (exits : HasOwnExits functions nodes) (begun : AreBegun functions node count) where
  exit_owner : (f : ℕ) → EndsAt functions node f → Owns functions nodes f node
  exit_owner f (one, at, ends) = subst (Owns functions nodes f) ends (exits f one at)

  pub exit_place : (f : ℕ) → EndsAt functions node f → f + 1 ≡ count
  exit_place f ends =
      let owns = exit_owner f ends in
      let lt : f < length functions = slice_get_within functions f owns.one owns.has in
      let same : Some owns.one ≡ Some (get_or functions f owns.one) = sym owns.has ∙ slice_get-get_or functions f owns.one lt in
      let here : owns.one ≡ get_or functions f owns.one = cc in
      let entry : owns.one.entry ≡ (get_or functions f owns.one).entry = ap (λ o. o.entry) here in
      elim (cases_lt f count) as (λ _. f + 1 ≡ count) [
        | inr past ↦ let after = begun.above f owns.one past lt in absurd (omega (arith, after, entry, owns.from))
        | inl inside ↦ elim (cases_lt (f + 1) count) as (λ _. f + 1 ≡ count) [
          | inr last ↦ omega (arith, last, inside)
          | inl more ↦
              let next : f + 1 < length functions = omega (arith, more, begun.within) in
              let begins = begun.below (f + 1) owns.one more in
              let slot : slice_get functions (f + 1) ≡ Some (get_or functions (f + 1) owns.one) = slice_get-get_or functions (f + 1) owns.one next in
              let before : end_of functions nodes f ≤ (get_or functions (f + 1) owns.one).entry = end_before functions nodes right f (f + 1) (get_or functions (f + 1) owns.one) (omega arith) slot (slice_get functions (f + 1)) refl in
              absurd (omega (arith, before, begins, owns.to))
        ]
      ]

-- the function at the place ends there, and where that one does not, none does
pub exit_at : (functions gs : List ModelFunction) (place node : ℕ) (one : ModelFunction) → gs ≡ functions → place < length gs → one ≡ get_or gs place one → one.exit ≡ node → EndsAt functions node place
exit_at functions gs place node one same lt is ends =
    subst (λ fs. EndsAt fs node place) same (one, slice_get-get_or gs place one lt ∙ ap Some (sym is), ends)

pub exit_other : (functions gs : List ModelFunction) (nodes node count place : ℕ) (one : ModelFunction) → gs ≡ functions → HasRightEntries functions nodes → HasOwnExits functions nodes → AreBegun gs node count → place + 1 ≡ count
    → place < length gs → one ≡ get_or gs place one → (one.exit ≡ node → ⊥) → (f : ℕ) → EndsAt functions node f → ⊥
exit_other functions gs nodes node count place one same right exits begun next lt is other f ends =
    let at = exit_place functions nodes node count right exits (subst (λ fs. AreBegun fs node count) same begun) f ends in
    let here : f ≡ place = omega (arith, at, next) in
    let (found, slot, exit) = subst (EndsAt functions node) here ends in
    let mine : slice_get functions place ≡ Some one = subst (λ fs. slice_get fs place ≡ Some one) same (slice_get-get_or gs place one lt ∙ ap Some (sym is)) in
    let both : Some found ≡ Some one = sym slot ∙ mine in
    let equal : found ≡ one = cc in
    other (ap (λ o. o.exit) (sym equal) ∙ exit)

pub exit_none : (functions gs : List ModelFunction) (nodes node count : ℕ) → gs ≡ functions → HasRightEntries functions nodes → HasOwnExits functions nodes → AreBegun gs node count → count ≡ 0 → (f : ℕ) → EndsAt functions node f → ⊥
exit_none functions gs nodes node count same right exits begun none f ends =
    let at = exit_place functions nodes node count right exits (subst (λ fs. AreBegun fs node count) same begun) f ends in
    omega (arith, at, none)
