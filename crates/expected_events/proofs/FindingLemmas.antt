-- What leads on from the nodes of a set.
use Rattle.std.proofs.Common.{◌≡◌, ◌↔◌, ℕ, ◌+◌, ◌<◌, Bool, true, IsTrue, List, [], ◌∷◌, length, take, get_or, Contains, Some, None, slice_get, refl, sym, ◌∙◌, ap, subst, inl, inr, arith}
use Rattle.std.specs.Prelude.{All, not, ◌==◌}
use Rattle.std.proofs.lemmas.Bool.{ne_eqb, false≢true}
use Rattle.std.proofs.lemmas.List.{take_more}
use Rattle.std.proofs.lemmas.List.Elements.{Contains-get_or, Contains-push_cases}
use Rattle.std.proofs.lemmas.Option.{none-some, same_Some, slice_get_read, slice_get_within}
use Rattle.dm_sets.specs.Nodes.{Nodes, Has}
use Rattle.flow_model.specs.declared.records.ModelFunction.{ModelFunction}
use Rattle.flow_model.specs.Call.{Call}
use Rattle.flow_model.specs.Graph.{Graph}
use Rattle.flow_model.specs.Rules.{IsValid}
use Rattle.dm_base.specs.Adding.{Has as HasOne}
use Rattle.stack_automaton.specs.Following.{IsCallAt}
use Rattle.stack_automaton.proofs.ReadingLemmas.{all_at}
use Rattle.expected_events.specs.Marked.{OwnsOne, IsOpenedBy, EndsAtOne, IsClosedAt}

-- a function that owns a node is one of the model
pub owner_within : (g : Graph) (at : Nodes) (f : ℕ) → OwnsOne g at f → f < length g.functions
owner_within g at f (a, has, owns) = slice_get_within g.functions f owns.one owns.has

-- the function that is read at a place of the model's list
pub function_here : (g : Graph) (fs : List ModelFunction) (f : ℕ) (one : ModelFunction) → fs ≡ g.functions → f < length g.functions → one ≡ get_or fs f one → slice_get g.functions f ≡ Some one
function_here g fs f one same lt is =
    let at : one ≡ get_or g.functions f one = subst (λ (xs : List ModelFunction). one ≡ get_or xs f one) same is in
    slice_get_read g.functions (length g.functions) f one refl lt at

-- a list has a member where it is not empty
pub has_member : (xs : List ℕ) (empty : Bool) → empty ≡ (length xs == 0) → IsTrue (not empty) ↔ ((x : ℕ) × Contains xs x)
has_member [] empty is = (λ e. absurd (false≢true (sym (ap not is) ∙ e)), λ (x, has). absurd (omega (arith, has.1)))
has_member (x ∷ xs) empty is = (λ _. (x, (0, omega arith, refl)), λ _. ap not (is ∙ ne_eqb (length (x ∷ xs)) 0 (λ e. omega (arith, e))))

-- Whether one of the functions ends at a node of the set.
module _ (g : Graph) (at : Nodes) where
  pub ends_none : EndsAtOne g at [] → ⊥
  ends_none (f, entry, exit, has, function, stands) = omega (arith, has.1)

  module _ (fs : List ℕ) (i : ℕ) (one : ModelFunction) (lt : i < length fs) (here : slice_get g.functions (get_or fs i 0) ≡ Some one) where
    pub ends_yes : Has at one.exit → EndsAtOne g at fs
    ends_yes stands = (get_or fs i 0, one.entry, one.exit, Contains-get_or fs i 0 lt, record { one = one; has = here; begins = refl; ends = refl }, stands)

    pub ends_more : (Has at one.exit → ⊥) → (EndsAtOne g at (take i fs) → ⊥) → EndsAtOne g at (take (i + 1) fs) → ⊥
    ends_more other before (f, entry, exit, has, function, stands) = elim (Contains-push_cases (take i fs) (get_or fs i 0) f (subst (λ xs. Contains xs f) (take_more fs i 0 lt) has)) as (λ _. ⊥) [
      | inl was ↦ before (f, entry, exit, was, function, stands)
      | inr same ↦
          let equal : function.one ≡ one = same_Some function.one one (sym function.has ∙ ap (slice_get g.functions) (sym same) ∙ here) in
          let ends : exit ≡ one.exit = sym function.ends ∙ ap (λ (o : ModelFunction). o.exit) equal in
          other (subst (Has at) ends stands)
    ]

-- the candidates of a call are functions
pub candidates_known : (g : Graph) (c : Call) → IsValid g → Contains g.calls c → All (λ f. f < length g.functions) c.candidates
candidates_known g c valid has = all_at (λ c. All (λ f. f < length g.functions) c.candidates) g.calls c valid.functions.candidates has

-- Which site may be closed, where this one is on top.
module _ (g : Graph) (at : Nodes) (site : ℕ) where
  pub closed_missing : ((c : Call) → Contains g.calls c → c.site ≡ site → ⊥) → (s : ℕ) → (None ≡ Some s) ↔ IsClosedAt g at (Some site) s
  closed_missing none s = (
    λ e. absurd (none-some s e),
    λ (same, (a, b, f, entry, exit, call, function, stands)). absurd (none call.call call.has (call.site ∙ sym (same_Some site s same))),
  )

  pub closed_yes : (c : Call) → IsCallAt g site c → EndsAtOne g at c.candidates → (s : ℕ) → (Some site ≡ Some s) ↔ IsClosedAt g at (Some site) s
  closed_yes c is (f, entry, exit, has, function, stands) s = (
    λ same. (same, (c.from, c.to, f, entry, exit, record { call = c; has = is.has; from = refl; site = is.at ∙ same_Some site s same; to = refl; candidate = has }, function, stands)),
    λ closed. closed.0,
  )

  pub closed_not : (c : Call) → IsCallAt g site c → (EndsAtOne g at c.candidates → ⊥) → (s : ℕ) → (None ≡ Some s) ↔ IsClosedAt g at (Some site) s
  closed_not c is none s = (
    λ e. absurd (none-some s e),
    λ (same, (a, b, f, entry, exit, call, function, stands)).
        let one : call.call ≡ c = is.only call.call call.has (call.site ∙ sym (same_Some site s same)) in
        absurd (none (f, entry, exit, subst (λ (d : Call). Contains d.candidates f) one call.candidate, function, stands)),
  )

-- the sites that are found, where the monitor reads sites
pub opened_all : (g : Graph) (at : Nodes) (sites : Bool) (found : List ℕ) → sites ≡ true → ((s : ℕ) → Contains found s ↔ HasOne (IsOpenedBy at s) g.calls) → (s : ℕ) → Contains found s ↔ (IsTrue sites × HasOne (IsOpenedBy at s) g.calls)
opened_all g at sites found on exact s = (λ has. (on, (exact s).0 has), λ both. (exact s).1 both.1)
