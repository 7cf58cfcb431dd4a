-- What leaves a node, and the call of a site, in a valid model.
use Rattle.std.proofs.Common.{◌≡◌, ◌↔◌, ℕ, ◌<◌, Bool, true, false, nat_eq, ◌||◌, List, [], ◌∷◌, length, Contains, Some, None, find, filter, refl, sym, ◌∙◌, inl, inr, arith}
use Rattle.std.specs.Prelude.{All}
use Rattle.std.specs.List.{list_any}
use Rattle.std.proofs.lemmas.Bool.{eq-eqb, eqb-true}
use Rattle.flow_model.specs.Call.{Call}
use Rattle.flow_model.specs.Graph.{Graph}
use Rattle.flow_model.specs.Groups.{sites_of}
use Rattle.flow_model.specs.Rules.{IsValid}
use Rattle.flow_model.proofs.AllAt.{all_at}
use Rattle.certify_facts.proofs.Owning.{one_call}
use Rattle.dm_base.specs.Adding.{Has}
use Rattle.certify_steps.specs.Reading.{IsCallAt}
pub use Rattle.flow_model.proofs.OwnersBelow.{contains_none, owner_below, silent_below, sys_below, call_below}
pub use Rattle.flow_model.proofs.EdgesFound.{Contains-cons, Contains-cons_cases, contains_filter, find_some, find_none, contains_map, from_node, sites_at, owned_below}

-- what a search by the site finds
module _ (g : Graph) (valid : IsValid g) (site : ℕ) where
  pub call_is : (c : Call) → find (λ c. nat_eq c.site site) g.calls ≡ Some c → IsCallAt g site c
  call_is c found =
      let (has, passes) = find_some (λ c. nat_eq c.site site) g.calls c found in
      let at : c.site ≡ site = eqb-true c.site site passes in
      record { has = has; at = at; only = λ d in_calls is. one_call g valid d c in_calls has (is ∙ sym at) }

  pub call_is_not : find (λ c. nat_eq c.site site) g.calls ≡ None → (c : Call) → Contains g.calls c → c.site ≡ site → ⊥
  call_is_not none c has is = find_none (λ c. nat_eq c.site site) g.calls c none has (eq-eqb c.site site is)

-- a search for a number
any_one : (y x : ℕ) (ys : List ℕ) (b : Bool) → nat_eq y x ≡ b → (list_any (λ h. nat_eq h x) ys ≡ true ↔ Contains ys x) → ((b || list_any (λ h. nat_eq h x) ys) ≡ true) ↔ Contains (y ∷ ys) x
any_one y x ys true is rest = (λ e. (0, omega arith, eqb-true y x is), λ has. refl)
any_one y x ys false is rest = (
  λ e. Contains-cons y x ys (rest.0 e),
  λ has. elim (Contains-cons_cases y x ys has) as (λ _. list_any (λ h. nat_eq h x) ys ≡ true) [
    | inl e ↦ let both : true ≡ false = sym (eq-eqb y x e) ∙ is in absurd cc
    | inr more ↦ rest.1 more
  ],
)

pub any_number : (xs : List ℕ) (x : ℕ) → (list_any (λ h. nat_eq h x) xs ≡ true) ↔ Contains xs x
any_number [] x = (λ e. absurd cc, λ has. absurd (contains_none x has))
any_number (y ∷ ys) x = any_one y x ys (nat_eq y x) refl (any_number ys x)

-- the sites of the calls that may enter a function
pub sites_of_function : (g : Graph) (f s : ℕ) → Contains (sites_of g f) s ↔ Has (λ c. Contains c.candidates f × (c.site ≡ s)) g.calls
sites_of_function g f s =
    let test : Call → Bool = λ c. list_any (λ h. nat_eq h f) c.candidates in
    let mapped = contains_map (λ c. c.site) (filter test g.calls) s in (
      λ has. let (c, kept, is) = mapped.0 has in let (in_calls, passes) = (contains_filter test g.calls c).0 kept in (c, in_calls, ((any_number c.candidates f).0 passes, is)),
      λ (c, has, (candidate, is)). mapped.1 (c, (contains_filter test g.calls c).1 (has, (any_number c.candidates f).1 candidate), is),
    )

pub candidate_below : (g : Graph) (c : Call) (f : ℕ) → IsValid g → Contains g.calls c → Contains c.candidates f → f < length g.functions
candidate_below g c f valid has candidate = all_at (λ h. h < length g.functions) c.candidates f (all_at (λ d. All (λ h. h < length g.functions) d.candidates) g.calls c valid.functions.candidates has) candidate
