-- How the table of openings is made.
use Rattle.std.proofs.Common.{◌≡◌, inl, inr, ℕ, ◌+◌, ◌-◌, ◌<◌, ◌≤◌, List, [], ◌++◌, length, get_or, map, Some, Contains, sym, ap, ◌∙◌, subst, arith}
use Rattle.std.specs.Prelude.{slice_get}
use Rattle.std.specs.declared.cmp.Ordering.TheVariants.{Equal}
use Rattle.std.specs.Ordering.{nat_cmp}
use Rattle.std.proofs.lemmas.Bool.{cases_eq}
use Rattle.std.proofs.lemmas.List.{get_or-map, length-map, get_or_default}
use Rattle.std.proofs.lemmas.List.Elements.{Contains-append_left, Contains-append_right, Contains-append_cases}
use Rattle.std.proofs.lemmas.Option.{slice_get_within}
use Rattle.flow_model.specs.declared.records.ModelFunction.{ModelFunction}
use Rattle.flow_model.specs.Call.{Call}
use Rattle.flow_model.specs.Graph.{Graph, Owns}
use Rattle.flow_model.specs.Order.{StrictlyRise}
use Rattle.flow_model.specs.Rules.{IsValid}
use Rattle.flow_model.proofs.OrderLemmas.{numbers_tie}
use Rattle.flow_model.proofs.OwnersLemmas.{owner_is_last}
use Rattle.inline_model.specs.Within.{Within}
use Rattle.inline_model.proofs.Basics.{within_owns, one_owner}
use Rattle.inline_model.specs.declared.table.Entry.{Entry}
use Rattle.inline_model.specs.Saturating.{IsWithin}
use Rattle.inline_model.specs.Entries.{entry_order, AreEntries, HasEntries, AddsCall}
use Rattle.flow_model.proofs.OrderLemmas.{both_equal}

pub entries_tie : (d e : Entry) → entry_order d e ≡ Equal → d ≡ e
entries_tie d e h =
    let first = both_equal (nat_cmp d.function e.function) _ h in
    let second = both_equal (nat_cmp d.place e.place) (nat_cmp d.candidate e.candidate) first.1 in
    let function : d.function ≡ e.function = (numbers_tie _ _).0 first.0 in
    let place : d.place ≡ e.place = (numbers_tie _ _).0 second.0 in
    let candidate : d.candidate ≡ e.candidate = (numbers_tie _ _).0 second.1 in
    λ i. record { function = function i; place = place i; candidate = candidate i }

-- the owner is the last function that begins at the node or before it
pub owner_within : (g : Graph) (node begun : ℕ) (functions : List ModelFunction) → IsValid g → IsWithin g node → functions ≡ g.functions → begun ≤ length functions
    → ((k : ℕ) (d : ModelFunction) → k < begun → (get_or functions k d).entry ≤ node)
    → ((k : ℕ) (d : ModelFunction) → begun ≤ k → k < length functions → node < (get_or functions k d).entry)
    → (0 < begun) × Within g (begun - 1) node
owner_within g node begun functions valid (f, within) same fits before after =
    let owns : Owns functions g.nodes f node = subst (λ xs. Owns xs g.nodes f node) (sym same) (within_owns valid within) in
    let last = owner_is_last functions g.nodes node begun fits before after f owns in
    let is : f ≡ begun - 1 = omega arith in
    (omega arith, subst (λ k. Within g k node) is within)

-- the candidates of a call as entries
contains_map : (f p : ℕ) (fs : List ℕ) (e : Entry) → Contains (map (λ h. record { function = f; place = p; candidate = h }) fs) e → (e.function ≡ f) × (e.place ≡ p) × Contains fs e.candidate
contains_map f p fs e (k, lt, is) =
    let within : k < length fs = omega (arith, length-map {B = Entry} fs (λ (h : ℕ). record { function = f; place = p; candidate = h })) in
    let at : record { function = f; place = p; candidate = get_or fs k 0 } ≡ e = sym (get_or-map (λ (h : ℕ). record { function = f; place = p; candidate = h }) fs k 0 e within) ∙ is in
    (ap (λ (x : Entry). x.function) (sym at), ap (λ (x : Entry). x.place) (sym at), subst (Contains fs) (ap (λ (x : Entry). x.candidate) at) (k, within, candidate_same fs k within))
  where
    candidate_same : (xs : List ℕ) (i : ℕ) → i < length xs → get_or xs i (get_or xs i 0) ≡ get_or xs i 0
    candidate_same xs i h = get_or_default xs i (get_or xs i 0) 0 h

map_contains : (f p : ℕ) (fs : List ℕ) (e : Entry) → e.function ≡ f → e.place ≡ p → Contains fs e.candidate → Contains (map (λ h. record { function = f; place = p; candidate = h }) fs) e
map_contains f p fs e function place (k, lt, is) =
    let within : k < length (map (λ (h : ℕ). record { function = f; place = p; candidate = h }) fs) = omega (arith, length-map {B = Entry} fs (λ (h : ℕ). record { function = f; place = p; candidate = h })) in
    let same : record { function = f; place = p; candidate = get_or fs k e.candidate } ≡ e = λ i. record { function = sym function i; place = sym place i; candidate = is i } in
    (k, within, get_or-map (λ (h : ℕ). record { function = f; place = p; candidate = h }) fs k e.candidate e lt ∙ same)

-- a call edge that leaves no node within its function adds nothing
pub adds_no_call : (g : Graph) (place : ℕ) (call : Call) (entries : List Entry) → (IsWithin g call.from → ⊥) → AddsCall g place call entries entries
adds_no_call g place call entries outside e = (λ has. inl has, λ either. elim either [ inl has ↦ has | inr new ↦ absurd (outside (e.function, new.1)) ])

pub adds_call : (g : Graph) → IsValid g → (place : ℕ) (call : Call) (f : ℕ) (old new : List Entry) → Within g f call.from → new ≡ old ++ map (λ h. record { function = f; place = place; candidate = h }) call.candidates → AddsCall g place call old new
adds_call g valid place call f old new within grown e = (
  λ has. elim (Contains-append_cases old (map (λ h. record { function = f; place = place; candidate = h }) call.candidates) e (subst (λ xs. Contains xs e) grown has)) [
    | inl before ↦ inl before
    | inr added ↦ (let parts = contains_map f place call.candidates e added in inr (parts.1, subst (λ k. Within g k call.from) (sym parts.0) within, parts.2))
  ],
  λ either. subst (λ xs. Contains xs e) (sym grown) (elim either [
    | inl before ↦ Contains-append_left old (map (λ h. record { function = f; place = place; candidate = h }) call.candidates) e before
    | inr new ↦ Contains-append_right old (map (λ h. record { function = f; place = place; candidate = h }) call.candidates) e
        (map_contains f place call.candidates e (one_owner g.functions g.nodes e.function f call.from valid.entries (within_owns valid new.1) (within_owns valid within)) new.0 new.2)
  ]),
)

pub no_entries : (g : Graph) → HasEntries g 0 []
no_entries g e = (λ has. absurd (omega (arith, has.1)), λ both. absurd (omega (arith, both.0)))

-- the entries of one call edge more
pub entries_more : (g : Graph) (k : ℕ) (call : Call) (old new : List Entry) → slice_get g.calls k ≡ Some call → HasEntries g k old → AddsCall g k call old new → HasEntries g (k + 1) new
entries_more g k call old new at has adds e = (
  λ there. elim ((adds e).0 there) [
    | inl before ↦ (let both = (has e).0 before in (omega (arith, both.0), both.1))
    | inr new ↦ (omega (arith, new.0), record { call = call; stands = ap (slice_get g.calls) new.0 ∙ at; within = new.1; candidate = new.2 })
  ],
  λ both. elim (cases_eq e.place k) [
    | inl same ↦
        let one : Some both.1.call ≡ Some call = sym both.1.stands ∙ ap (slice_get g.calls) same ∙ at in
        let is_call : both.1.call ≡ call = cc in
        (adds e).1 (inr (same, subst (λ (c : Call). Within g e.function c.from) is_call both.1.within, subst (λ (c : Call). Contains c.candidates e.candidate) is_call both.1.candidate))
    | inr other ↦ (let less : e.place < k = omega (arith, other, both.0) in (adds e).1 (inl ((has e).1 (less, both.1))))
  ],
)

pub entries_sorted : (g : Graph) (old new : List Entry) → HasEntries g (length g.calls) old → StrictlyRise entry_order new → ((e : Entry) → Contains new e → Contains old e) → ((e : Entry) → Contains old e → (d : Entry) × Contains new d × (entry_order e d ≡ Equal)) → AreEntries g new
entries_sorted g old new has rise from all = record {
  all = λ e. (
    λ there. ((has e).0 (from e there)).1,
    λ entry.
        let within : e.place < length g.calls = slice_get_within g.calls e.place entry.call entry.stands in
        let found = all e ((has e).1 (within, entry)) in
        subst (Contains new) (sym (entries_tie e found.0 found.2)) found.1,
  );
  rise = rise;
}
