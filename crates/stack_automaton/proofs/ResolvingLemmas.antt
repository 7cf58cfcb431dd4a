-- States whose calls lead to known keys alone.
use Rattle.std.proofs.Common.{◌≡◌, ◌≢◌, ℕ, ◌+◌, ◌<◌, ◌≤◌, List, [], ◌∷◌, ◌++◌, length, get_or, take, nat_eq, Contains, Some, slice_get, refl, sym, ◌∙◌, ap, subst, inl, inr, arith}
use Rattle.std.specs.List.{position_or_len}
use Rattle.std.proofs.lemmas.List.{take_more, take_all}
use Rattle.std.proofs.lemmas.List.Elements.{Contains-push_cases}
use Rattle.std.proofs.lemmas.Option.{slice_get_within}
use Rattle.stack_automaton.specs.declared.place.Place.{Place}
use Rattle.stack_automaton.specs.declared.place.Place.TheVariants.{Held, Entered}
use Rattle.stack_automaton.specs.declared.place.Edge.{Edge}
use Rattle.stack_automaton.specs.declared.place.Link.{Link}
use Rattle.stack_automaton.specs.declared.saturate.Closure.{Closure}
use Rattle.stack_automaton.specs.declared.place.Fact.{Fact}
use Rattle.flow_model.specs.Graph.{Graph}
use Rattle.dm_base.specs.Adding.{Adds}
use Rattle.stack_automaton.specs.Held.{States, IsThere}
use Rattle.stack_automaton.specs.Links.{Links, HasLink, functions_of}
use Rattle.stack_automaton.specs.Resolving.{IsKnown, AreResolved}
use Rattle.stack_automaton.specs.Storing.{IsClosed, Grows, key_at, AreLinkEdges, IsFilled, IsEvent, Planned, Rewrites, Filled, AreTargets, AreStored}
use Rattle.stack_automaton.proofs.GrowingLemmas.{both_edge, grows_trans, grows_rewritten, targets, entered_stored}

-- what holds of the first items, and of one more
module _ {X : Type 0} (P : X → Type 0) (xs : List X) (i : ℕ) where
  pub all_more : (x : X) → i < length xs → x ≡ get_or xs i x → ((y : X) → Contains (take i xs) y → P y) → P x → (y : X) → Contains (take (i + 1) xs) y → P y
  all_more x lt is before one y has =
      let more : take (i + 1) xs ≡ take i xs ++ x ∷ [] = take_more xs i x lt ∙ ap (λ z. take i xs ++ z ∷ []) (sym is) in
      elim (Contains-push_cases (take i xs) x y (subst (λ ys. Contains ys y) more has)) as (λ _. P y) [
        | inl was ↦ before y was
        | inr e ↦ subst P e one
      ]

  pub all_end : length xs ≤ i → ((y : X) → Contains (take i xs) y → P y) → (y : X) → Contains xs y → P y
  all_end over before = subst (λ ys. (y : X) → Contains ys y → P y) (take_all i xs over) before

-- Keys that agree with others where they are known.
module _ (links : Links) (keys ks known : List ℕ) (same : (i : ℕ) → Contains known i → get_or ks i 0 ≡ get_or keys i 0) where
  key_known : (p : Place) → IsKnown (functions_of links) known p → key_at (functions_of links) keys p ≡ key_at (functions_of links) ks p
  key_known (Held q) is = refl
  key_known (Entered f) is = sym (same (position_or_len (nat_eq f) (functions_of links)) is)

  pub edges_known : (f : ℕ) (edges : List Edge) → ((l : Link) → HasLink links f l → IsKnown (functions_of links) known l.place) → AreLinkEdges links keys f edges → AreLinkEdges links ks f edges
  edges_known f edges below are e = (
    λ has.
        let (l, is, equal) = (are e).0 has in
        (l, is, equal ∙ both_edge l.site (key_at (functions_of links) keys l.place) l.site (key_at (functions_of links) ks l.place) refl (key_known l.place (below l is))),
    λ (l, is, equal). (are e).1 (l, is, equal ∙ both_edge l.site (key_at (functions_of links) ks l.place) l.site (key_at (functions_of links) keys l.place) refl (sym (key_known l.place (below l is)))),
  )

  -- a state at a known key is right among the others too
  pub filled_among : (old new : States) → Grows old new → AreResolved old keys known links → (i : ℕ) → Contains known i → IsFilled new ks links i
  filled_among old new grows resolved i has f at =
      let (edges, found, list) = resolved.filled i has f at in
      (edges, subst (λ k. new k ≡ Some edges) (sym (same i has)) (grows.kept (get_or keys i 0) edges found), edges_known f edges (λ l is. resolved.below i f l has at is) list)

-- nothing is known yet
pub resolved_none : (s : States) (keys known : List ℕ) (links : Links) → length keys ≡ length (functions_of links) → known ≡ [] → AreResolved s keys known links
resolved_none s keys known links long none =
    let not : (i : ℕ) → Contains known i → ⊥ = λ i has. let in_none : Contains [] i = subst (λ ks. Contains ks i) none has in omega (arith, in_none.1) in
    record {
      long = long;
      within = λ i has. absurd (not i has);
      there = λ i has. absurd (not i has);
      filled = λ i has. absurd (not i has);
      below = λ i f l has at is. absurd (not i has);
    }

-- a known key is there
module _ (s : States) (keys known : List ℕ) (links : Links) (resolved : AreResolved s keys known links) where
  known_there : (p : Place) → ((q : ℕ) → p ≡ Held q → IsThere s q) → IsKnown (functions_of links) known p → IsThere s (key_at (functions_of links) keys p)
  known_there (Held q) held is = held q refl
  known_there (Entered f) held is = resolved.there (position_or_len (nat_eq f) (functions_of links)) is

  pub ends_there : ((f q : ℕ) (l : Link) → HasLink links f l → l.place ≡ Held q → IsThere s q) → (f : ℕ) → ((l : Link) → HasLink links f l → IsKnown (functions_of links) known l.place)
      → (l : Link) → HasLink links f l → IsThere s (key_at (functions_of links) keys l.place)
  ends_there held f below l is = known_there l.place (λ q at. held f q l is at) (below l is)

-- One key more is known.
module _ (old new : States) (keys ks known more : List ℕ) (links : Links) (place f key : ℕ) (edges : List Edge) (resolved : AreResolved old keys known links) (grows : Grows old new)
    (at : slice_get (functions_of links) place ≡ Some f) (unknown : Contains known place → ⊥) (below : (l : Link) → HasLink links f l → IsKnown (functions_of links) known l.place)
    (list : AreLinkEdges links keys f edges) (found : new key ≡ Some edges) (long : length ks ≡ length keys) (here : get_or ks place 0 ≡ key)
    (others : (i : ℕ) → i ≢ place → get_or ks i 0 ≡ get_or keys i 0) (adds : Adds known more (λ i. i ≡ place)) where
  same_before : (i : ℕ) → Contains known i → get_or ks i 0 ≡ get_or keys i 0
  same_before i has = others i (λ e. unknown (subst (Contains known) e has))

  known_more : (p : Place) → IsKnown (functions_of links) known p → IsKnown (functions_of links) more p
  known_more (Held q) is = is
  known_more (Entered g) is = (adds.is (position_or_len (nat_eq g) (functions_of links))).1 (inl is)

  filled_here : IsFilled new ks links place
  filled_here h is =
      let both : Some f ≡ Some h = sym at ∙ is in
      let equal : f ≡ h = cc in
      (edges, subst (λ k. new k ≡ Some edges) (sym here) found, subst (λ j. AreLinkEdges links ks j edges) equal (edges_known links keys ks known same_before f edges below list))

  -- what holds at the place, and at those that were known before, holds at all that are known
  at_each : (P : ℕ → Type 0) → ((i : ℕ) → Contains known i → P i) → P place → (i : ℕ) → Contains more i → P i
  at_each P before one i has = elim ((adds.is i).0 has) as (λ _. P i) [
    | inl was ↦ before i was
    | inr e ↦ subst P (sym e) one
  ]

  pub resolved_more : AreResolved new ks more links
  resolved_more = record {
    long = long ∙ resolved.long;
    within = at_each (λ i. i < length ks) (λ i has. let lt = resolved.within i has in omega (arith, lt, long)) (let lt = slice_get_within (functions_of links) place f at in omega (arith, lt, long, resolved.long));
    there = at_each (λ i. IsThere new (get_or ks i 0))
        (λ i has. let (es, is) = resolved.there i has in (es, subst (λ k. new k ≡ Some es) (sym (same_before i has)) (grows.kept (get_or keys i 0) es is)))
        (edges, subst (λ k. new k ≡ Some edges) (sym here) found);
    filled = at_each (λ i. IsFilled new ks links i) (filled_among links keys ks known same_before old new grows resolved) filled_here;
    below = λ i h l has is in_links.
        at_each (λ j. (h : ℕ) (l : Link) → slice_get (functions_of links) j ≡ Some h → HasLink links h l → IsKnown (functions_of links) more l.place)
        (λ j was h l is in_links. known_more l.place (resolved.below j h l was is in_links))
        (λ h l is in_links.
        let both : Some f ≡ Some h = sym at ∙ is in
        let equal : f ≡ h = cc in
        known_more l.place (below l (subst (λ j. HasLink links j l) (sym equal) in_links)))
        i has h l is in_links;
  }

-- The states of the functions whose keys were not known.
module _ (g : Graph) (done : Closure) (old mid : States) (found known keys ks : List ℕ) (equal : ks ≡ keys) (resolved : AreResolved old found known done.links) (plan : Planned old mid found known keys (length found)) where
  planned : Planned old mid found known ks (length found)
  planned = subst (λ xs. Planned old mid found known xs (length found)) (sym equal) plan

  pub others_own : (i : ℕ) → i < length ks → IsThere mid (get_or ks i 0)
  others_own i lt = planned.there i (let long = planned.long in omega (arith, lt, long))

  pub others_apart : (i j : ℕ) → i < length ks → j < length ks → i ≢ j → (Contains known j → ⊥) → get_or ks i 0 ≢ get_or ks j 0
  others_apart i j i_lt j_lt = let long = planned.long in planned.apart i j (omega (arith, i_lt, long)) (omega (arith, j_lt, long))

  pub others_known : (i : ℕ) → i < length ks → Contains known i → IsFilled mid ks done.links i
  others_known i lt has = filled_among done.links found ks known (λ j was. planned.same j (resolved.within j was) was) old mid planned.grown resolved i has

  pub others_grow : (new : States) → Rewrites mid new ks known → Grows old new
  others_grow new rewrites = grows_rewritten old mid new found known ks (length found) planned rewrites

  module _ (s : States) (begin : List Fact) (event : IsEvent g s begin done) (closed : IsClosed s) (before : Grows s old) where
    has_key : (i : ℕ) → i < length (functions_of done.links) → IsThere mid (get_or ks i 0)
    has_key i lt = let long = resolved.long in planned.there i (omega (arith, lt, long))

    pub others_targets : AreTargets mid ks done
    others_targets = targets g s begin done event closed mid ks (grows_trans s old mid before planned.grown) has_key

    pub others_stored : (new : States) → Filled mid new ks known done.links (length ks) → AreStored new done keys
    others_stored new filled =
        subst (AreStored new done) equal (entered_stored g s begin done event closed mid ks (grows_trans s old mid before planned.grown) has_key new known (planned.long ∙ resolved.long) filled)

-- Where all keys are known the states are stored already.
module _ (g : Graph) (done : Closure) (old : States) (found known : List ℕ) (resolved : AreResolved old found known done.links) (all : (i : ℕ) → i < length found → Contains known i)
    (s : States) (begin : List Fact) (event : IsEvent g s begin done) (closed : IsClosed s) (before : Grows s old) where
  is_known : (i : ℕ) → i < length (functions_of done.links) → Contains known i
  is_known i lt = all i (let long = resolved.long in omega (arith, lt, long))

  pub all_stored : AreStored old done found
  all_stored = record {
    filled = λ i lt. resolved.filled i (is_known i lt);
    targets = targets g s begin done event closed old found before (λ i lt. resolved.there i (is_known i lt));
  }
