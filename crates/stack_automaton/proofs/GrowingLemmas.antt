-- Pools that grow, and the states of an event in them.
use Rattle.std.proofs.Common.{◌≡◌, ◌≢◌, ◌↔◌, ℕ, ◌+◌, ◌<◌, List, [], ◌∷◌, ◌++◌, length, get_or, nat_eq, Contains, Some, None, Option, Bool, true, false, cond, slice_get, find, refl, sym, ◌∙◌, ap, subst, inl, inr, arith, length-append}
use Rattle.std.specs.List.{position_or_len}
use Rattle.std.specs.Prelude.{IsSomeAnd}
use Rattle.std.proofs.lemmas.Bool.{cases_eq, eqb-true}
use Rattle.std.proofs.lemmas.List.{get_or_push, get_or_append_left}
use Rattle.std.proofs.lemmas.List.Folds.{find_at}
use Rattle.std.proofs.lemmas.Option.{slice_get_within}
use Rattle.std.specs.Map.{lookup, keys_of}
use Rattle.flow_model.specs.Graph.{Graph}
use Rattle.stack_automaton.specs.declared.place.Place.{Place}
use Rattle.stack_automaton.specs.declared.place.Place.TheVariants.{Held, Entered}
use Rattle.stack_automaton.specs.declared.place.Edge.{Edge}
use Rattle.stack_automaton.specs.declared.place.Fact.{Fact}
use Rattle.stack_automaton.specs.declared.place.Link.{Link}
use Rattle.stack_automaton.specs.declared.saturate.Closure.{Closure}
use Rattle.dm_base.specs.Adding.{Has}
use Rattle.stack_automaton.specs.Held.{States, IsThere, HasEdge}
use Rattle.stack_automaton.specs.Links.{Links, HasLink, functions_of}
use Rattle.stack_automaton.specs.Event.{IsFact, IsLink, key_of}
use Rattle.stack_automaton.specs.Following.{IsFirst, link_of}
use Rattle.stack_automaton.specs.Storing.{IsClosed, Grows, IsPut, key_at, IsLinkEdge, AreLinkEdges, AreTops, Planned, IsFilled, Rewrites, Filled, AreTargets, IsEvent, AreStored, IsStored}
use Rattle.stack_automaton.specs.Resolving.{IsChosen}
use Rattle.stack_automaton.proofs.EventLemmas.{there, IsThereAt, linked, IsLinked}

pub grows_same : (old new : States) → ((k : ℕ) → new k ≡ old k) → Grows old new
grows_same old new same = record {
  kept = λ k edges has. same k ∙ has;
  closed = λ closed k edges e has in_edges. let (more, is) = closed k edges e (sym (same k) ∙ has) in_edges in (more, same e.to ∙ is);
}

pub grows_trans : (old mid new : States) → Grows old mid → Grows mid new → Grows old new
grows_trans old mid new one two = record {
  kept = λ k edges has. two.kept k edges (one.kept k edges has);
  closed = λ closed. two.closed (one.closed closed);
}

-- other edges at a key
pub put_there : (old new : States) (key : ℕ) (edges : List Edge) → IsPut old new key (Some edges) → (k : ℕ) → IsThere old k → IsThere new k
put_there old new key edges puts k (more, is) = elim (cases_eq k key) as (λ _. IsThere new k) [
  | inl e ↦ (edges, ap new e ∙ puts.changed)
  | inr ne ↦ (more, puts.others k ne ∙ is)
]

pub put_closed : (old new : States) (key : ℕ) (edges : List Edge) → IsPut old new key (Some edges) → ((e : Edge) → Contains edges e → IsThere old e.to) → IsClosed old → IsClosed new
put_closed old new key edges puts targets closed k others e has in_edges = elim (cases_eq k key) as (λ _. IsThere new e.to) [
  | inl same ↦
      let both : Some others ≡ Some edges = sym has ∙ ap new same ∙ puts.changed in
      let equal : others ≡ edges = cc in
      put_there old new key edges puts e.to (targets e (subst (λ es. Contains es e) equal in_edges))
  | inr ne ↦ put_there old new key edges puts e.to (closed k others e (sym (puts.others k ne) ∙ has) in_edges)
]

-- a new state whose edges lead to keys that are there
pub grows_put : (old new : States) (key : ℕ) (edges : List Edge) → old key ≡ None → IsPut old new key (Some edges) → ((e : Edge) → Contains edges e → IsThere old e.to) → Grows old new
grows_put old new key edges vacant puts targets = record {
  kept = λ k es has. elim (cases_eq k key) as (λ _. new k ≡ Some es) [
    | inl e ↦ let both : None ≡ Some es = sym vacant ∙ ap old (sym e) ∙ has in absurd cc
    | inr ne ↦ puts.others k ne ∙ has
  ];
  closed = put_closed old new key edges puts targets;
}

-- nothing is planned yet
pub planned_none : (old : States) (before known keys : List ℕ) → length keys ≡ 0 → Planned old old before known keys 0
planned_none old before known keys none = record {
  grown = grows_same old old (λ k. refl);
  long = none;
  there = λ i lt. absurd (omega (arith, lt));
  same = λ i lt. absurd (omega (arith, lt));
  fresh = λ i lt. absurd (omega (arith, lt));
  apart = λ i j less lt. absurd (omega (arith, lt));
}

none_before : (old mid : States) (key : ℕ) → Grows old mid → mid key ≡ None → (slot : Option (List Edge)) → old key ≡ slot → old key ≡ None
none_before old mid key grows none None is = is
none_before old mid key grows none (Some edges) is = let both : None ≡ Some edges = sym none ∙ grows.kept key edges is in absurd cc

-- keys of which one is there and the other isn't
there_apart : (s : States) (k q : ℕ) → IsThere s k → s q ≡ None → k ≢ q
there_apart s k q (edges, is) none same = let both : None ≡ Some edges = sym none ∙ ap s (sym same) ∙ is in absurd cc

-- one key more
module _ (old mid new : States) (before known keys : List ℕ) (n key : ℕ) (planned : Planned old mid before known keys n)
    (there_before : (i : ℕ) → Contains known i → IsThere old (get_or before i 0)) (grows : Grows mid new) (is_there : IsThere new key) (chosen : IsChosen mid before known n key) where
  abbrev more : List ℕ
  more = keys ++ key ∷ []

  earlier : (i : ℕ) → i < n → get_or more i 0 ≡ get_or keys i 0
  earlier i lt = let less : i < length keys = omega (arith, planned.long) in get_or_append_left keys (key ∷ []) 0 i less

  last : (i : ℕ) → i ≡ n → get_or more i 0 ≡ key
  last i e = ap (λ j. get_or more j 0) e ∙ get_or_push keys key 0 n planned.long

  key_new : (Contains known n → ⊥) → mid key ≡ None
  key_new unknown = elim chosen as (λ _. mid key ≡ None) [ inl p ↦ absurd (unknown p.0) | inr p ↦ p.1 ]

  key_same : Contains known n → key ≡ get_or before n 0
  key_same has = elim chosen as (λ _. key ≡ get_or before n 0) [ inl p ↦ p.1 | inr p ↦ absurd (p.0 has) ]

  -- the new key is none of the fresh ones before it
  key_apart : (j : ℕ) → j < n → (Contains known j → ⊥) → key ≢ get_or keys j 0
  key_apart j lt unknown = elim chosen as (λ _. key ≢ get_or keys j 0) [
    | inl p ↦ there_apart old key (get_or keys j 0) (subst (IsThere old) (sym p.1) (there_before n p.0)) (planned.fresh j lt unknown)
    | inr p ↦ λ same. there_apart mid (get_or keys j 0) key (planned.there j lt) p.1 (sym same)
  ]

  pub planned_more : Planned old new before known more (n + 1)
  planned_more = record {
    grown = grows_trans old mid new planned.grown grows;
    long = omega (arith, length-append keys (key ∷ []), planned.long);
    there = λ i lt. elim (cases_eq i n) as (λ _. IsThere new (get_or more i 0)) [
      | inl e ↦ subst (IsThere new) (sym (last i e)) is_there
      | inr ne ↦
          let less : i < n = omega (arith, ne) in
          let (edges, is) = planned.there i less in
          subst (IsThere new) (sym (earlier i less)) (edges, grows.kept (get_or keys i 0) edges is)
    ];
    same = λ i lt has. elim (cases_eq i n) as (λ _. get_or more i 0 ≡ get_or before i 0) [
      | inl e ↦ last i e ∙ key_same (subst (Contains known) e has) ∙ ap (λ j. get_or before j 0) (sym e)
      | inr ne ↦ let less : i < n = omega (arith, ne) in earlier i less ∙ planned.same i less has
    ];
    fresh = λ i lt unknown. elim (cases_eq i n) as (λ _. old (get_or more i 0) ≡ None) [
      | inl e ↦ ap old (last i e) ∙ none_before old mid key planned.grown (key_new (λ has. unknown (subst (Contains known) (sym e) has))) (old key) refl
      | inr ne ↦ let less : i < n = omega (arith, ne) in ap old (earlier i less) ∙ planned.fresh i less unknown
    ];
    apart = λ i j i_lt j_lt differ unknown. elim (cases_eq j n) as (λ _. get_or more i 0 ≢ get_or more j 0) [
      | inl e ↦ λ same.
          let less : i < n = omega (arith, differ, e) in
          there_apart mid (get_or keys i 0) key (planned.there i less) (key_new (λ has. unknown (subst (Contains known) (sym e) has))) (sym (earlier i less) ∙ same ∙ last j e)
      | inr ne ↦ λ same.
          let j_less : j < n = omega (arith, ne) in
          elim (cases_eq i n) as (λ _. ⊥) [
            | inl e ↦ key_apart j j_less unknown (sym (last i e) ∙ same ∙ earlier j j_less)
            | inr other ↦
                let i_less : i < n = omega (arith, other) in
                planned.apart i j i_less j_less differ unknown (sym (earlier i i_less) ∙ same ∙ earlier j j_less)
          ]
    ];
  }

-- nothing is filled yet
pub filled_none : (old : States) (keys known : List ℕ) (links : Links) → Filled old old keys known links 0
filled_none old keys known links = record {
  rewrites = record { others = λ k apart. refl; there = λ k is. is; closed = λ closed. closed };
  filled = λ i lt. absurd (omega (arith, lt));
}

-- a state that is the same at another time
pub filled_kept : (old new : States) (keys : List ℕ) (links : Links) (i : ℕ) → new (get_or keys i 0) ≡ old (get_or keys i 0) → IsFilled old keys links i → IsFilled new keys links i
filled_kept old new keys links i same filled f at = let (edges, is, list) = filled f at in (edges, same ∙ is, list)

-- a state at a known key stays as it was
pub filled_known : (old mid : States) (keys known : List ℕ) (links : Links) (n : ℕ) → n < length keys
    → ((i j : ℕ) → i < length keys → j < length keys → i ≢ j → (Contains known j → ⊥) → get_or keys i 0 ≢ get_or keys j 0) → Rewrites old mid keys known
    → Contains known n → IsFilled old keys links n → IsFilled mid keys links n
filled_known old mid keys known links n within apart rewrites has =
    filled_kept old mid keys links n (rewrites.others (get_or keys n 0) (λ i lt unknown same. apart n i within lt (λ e. unknown (subst (Contains known) e has)) unknown (sym same)))

-- one state more, whether it has got its edges or not
module _ (old mid new : States) (keys known : List ℕ) (links : Links) (n : ℕ) (within : n < length keys)
    (others : (k : ℕ) → ((Contains known n → ⊥) → get_or keys n 0 ≢ k) → new k ≡ mid k) (there_still : (k : ℕ) → IsThere mid k → IsThere new k) (closed : IsClosed mid → IsClosed new) where
  pub rewrites_more : Rewrites old mid keys known → Rewrites old new keys known
  rewrites_more before = record {
    others = λ k apart. others k (apart n within) ∙ before.others k apart;
    there = λ k is. there_still k (before.there k is);
    closed = λ was. closed (before.closed was);
  }

  pub filled_more : ((i j : ℕ) → i < length keys → j < length keys → i ≢ j → (Contains known j → ⊥) → get_or keys i 0 ≢ get_or keys j 0) → IsFilled new keys links n → Filled old mid keys known links n → Filled old new keys known links (n + 1)
  filled_more apart one before = record {
    rewrites = rewrites_more before.rewrites;
    filled = λ i lt. elim (cases_eq i n) as (λ _. IsFilled new keys links i) [
      | inl e ↦ subst (IsFilled new keys links) (sym e) one
      | inr ne ↦
          let less : i < n = omega (arith, ne) in
          let in_keys : i < length keys = omega arith in
          filled_kept mid new keys links i (others (get_or keys i 0) (λ unknown same. apart i n in_keys within ne unknown (sym same))) (before.filled i less)
    ];
  }

-- what is written over the new keys leaves the old ones
pub grows_rewritten : (old mid new : States) (before known keys : List ℕ) (n : ℕ) → Planned old mid before known keys n → Rewrites mid new keys known → Grows old new
grows_rewritten old mid new before known keys n planned rewrites = record {
  kept = λ k edges has. rewrites.others k (λ i lt unknown same.
      let less : i < n = omega (arith, planned.long) in
      there_apart old k (get_or keys i 0) (edges, has) (planned.fresh i less unknown) (sym same)) ∙ planned.grown.kept k edges has;
  closed = λ closed. rewrites.closed (planned.grown.closed closed);
}

-- the place of a function that is entered
found_one : {X : Type 0} (f k : ℕ) (v : X) (es : List (ℕ × X)) (P : X → Type 0) (b : Bool) → nat_eq f k ≡ b → (IsSomeAnd (lookup (nat_eq f) es) P → find (nat_eq f) (keys_of es) ≡ Some f)
    → IsSomeAnd (cond b (Some v) (lookup (nat_eq f) es)) P → cond b (Some k) (find (nat_eq f) (keys_of es)) ≡ Some f
found_one f k v es P true e rest has = ap Some (sym (eqb-true f k e))
found_one f k v es P false e rest has = rest has

found_key : {X : Type 0} (es : List (ℕ × X)) (f : ℕ) (P : X → Type 0) → IsSomeAnd (lookup (nat_eq f) es) P → find (nat_eq f) (keys_of es) ≡ Some f
found_key [] f P has = absurd has
found_key (e ∷ es) f P has = found_one f e.0 e.1 es P (nat_eq f e.0) refl (found_key es f P) has

pub function_place : (links : Links) (f : ℕ) (l : Link) → HasLink links f l → slice_get (functions_of links) (position_or_len (nat_eq f) (functions_of links)) ≡ Some f
function_place links f l has = sym (find_at (nat_eq f) (functions_of links)) ∙ found_key links.lists f (λ v. Contains v l) has

-- an edge leads to a key that is there
pub edge_there : (s : States) → IsClosed s → (k l q : ℕ) → IsThere s k → HasEdge s k l q → IsThere s q
edge_there s closed k l q is (edges, found, has) = closed k edges (record { label = l; to = q }) found has

same_key : (functions keys : List ℕ) (p : Place) → key_of (λ f. key_at functions keys (Entered f)) p ≡ key_at functions keys p
same_key functions keys (Held q) = refl
same_key functions keys (Entered f) = refl

pub both_edge : (l k s t : ℕ) → l ≡ s → k ≡ t → ◌≡◌ {A = Edge} (record { label = l; to = k }) (record { label = s; to = t })
both_edge l k s t one two = λ i. record { label = one i; to = two i }

-- The states of an event.
module _ (g : Graph) (old : States) (begin : List Fact) (done : Closure) (event : IsEvent g old begin done) (closed : IsClosed old) where
  abbrev fs : List ℕ
  fs = functions_of done.links

  has_link : (f s : ℕ) (p : Place) → IsLink g (HasEdge old) (IsFirst begin) f s p → (l : Link) × HasLink done.links f l × (l.site ≡ s) × (l.place ≡ p)
  has_link f s p (a, b, entry, exit, fact, call, at) =
      let l : Link = link_of call.call p in
      let x : Fact = record { node = a; place = p } in
      (l, (event.closure.links f l).1 (x, (event.closure.facts x).1 fact, (call.call, call.has, (call.from, (call.candidate, refl)))), call.site, refl)

  place_there : (x : Fact) → Contains done.facts.keys x → IsThereAt g (HasEdge old) (IsFirst begin) (IsThere old) (edge_there old closed) event.there x.place
  place_there x has = there g (HasEdge old) (IsFirst begin) (IsThere old) (edge_there old closed) event.there ((event.closure.facts x).0 has)

  entered_place : (f s : ℕ) (p : Place) → IsLink g (HasEdge old) (IsFirst begin) f s p → slice_get fs (position_or_len (nat_eq f) fs) ≡ Some f
  entered_place f s p is = let (l, has, site, place) = has_link f s p is in function_place done.links f l has

  -- below each fact and each call of the event is a key that is there, once each function has one
  module _ (mid : States) (keys : List ℕ) (grown : Grows old mid) (has_key : (i : ℕ) → i < length fs → IsThere mid (get_or keys i 0)) where
    target : (p : Place) → IsThereAt g (HasEdge old) (IsFirst begin) (IsThere old) (edge_there old closed) event.there p → IsLinked g (HasEdge old) (IsFirst begin) p → IsThere mid (key_at fs keys p)
    target (Held q) (edges, is) linked = (edges, grown.kept q edges is)
    target (Entered f) is (s, p, link) =
        let at = entered_place f s p link in
        has_key (position_or_len (nat_eq f) fs) (slice_get_within fs (position_or_len (nat_eq f) fs) f at)

    pub targets : AreTargets mid keys done
    targets =
        let facts : (x : Fact) → Contains done.facts.keys x → IsThere mid (key_at fs keys x.place) =
        λ x has. target x.place (place_there x has) (linked g (HasEdge old) (IsFirst begin) ((event.closure.facts x).0 has)) in
        record {
          facts = facts;
          links = λ f l has.
              let (z, in_facts, (c, in_calls, (from, (candidate, is)))) = (event.closure.links f l).0 has in
              let place : l.place ≡ z.place = ap (λ k. k.place) is in
              subst (λ p. IsThere mid (key_at fs keys p)) (sym place) (facts z in_facts);
        }

    pub entered_stored : (new : States) (known : List ℕ) → length keys ≡ length fs → Filled mid new keys known done.links (length keys) → AreStored new done keys
    entered_stored new known long full = record {
      filled = λ i lt. let within : i < length keys = omega (arith, lt, long) in full.filled i within;
      targets = record {
        facts = λ x has. full.rewrites.there (key_at fs keys x.place) (targets.facts x has);
        links = λ f l has. full.rewrites.there (key_at fs keys l.place) (targets.links f l has);
      };
    }

  -- the keys of earlier events to which calls lead
  pub held_there : (f q : ℕ) (l : Link) → HasLink done.links f l → l.place ≡ Held q → IsThere old q
  held_there f q l has is =
      let (z, in_facts, (c, in_calls, (from, (candidate, same)))) = (event.closure.links f l).0 has in
      let place : z.place ≡ Held q = sym (ap (λ k. k.place) same) ∙ is in
      subst (IsThereAt g (HasEdge old) (IsFirst begin) (IsThere old) (edge_there old closed) event.there) place (place_there z in_facts)

  -- the edges of an entered function
  module _ (new : States) (keys : List ℕ) (grown : Grows old new) (stored : AreStored new done keys) where
    links_stored : (f s : ℕ) (p : Place) → IsLink g (HasEdge old) (IsFirst begin) f s p → (l k : ℕ) → HasEdge new (key_at fs keys (Entered f)) l k ↔ ((r : Place) × IsLink g (HasEdge old) (IsFirst begin) f l r × (k ≡ key_of (λ i. key_at fs keys (Entered i)) r))
    links_stored f s p is l k =
        let at = entered_place f s p is in
        let (a, b, entry, exit, fact, call, function) = is in
        let (edges, found, list) = stored.filled (position_or_len (nat_eq f) fs) (slice_get_within fs (position_or_len (nat_eq f) fs) f at) f at in (
          λ (others, here, has).
              let both : Some others ≡ Some edges = sym here ∙ found in
              let equal : others ≡ edges = cc in
              let (m, has_m, e_is) = (list (record { label = l; to = k })).0 (subst (λ es. Contains es (record { label = l; to = k })) equal has) in
              let (z, in_facts, (c, in_calls, (from, (candidate, m_is)))) = (event.closure.links f m).0 has_m in
              let place : m.place ≡ z.place = ap (λ x. x.place) m_is in
              let site : m.site ≡ c.site = ap (λ x. x.site) m_is in
              let label : l ≡ m.site = ap (λ e. e.label) e_is in (
                m.place,
                (z.node, c.to, entry, exit, subst (λ q. IsFact g (HasEdge old) (IsFirst begin) z.node q) (sym place) ((event.closure.facts z).0 in_facts), record { call = c; has = in_calls; from = from; site = sym (label ∙ site); to = refl; candidate = candidate }, function),
                ap (λ e. e.to) e_is ∙ sym (same_key fs keys m.place),
              ),
          λ (r, link, same).
              let (m, has_m, site, place) = has_link f l r link in
              let to : k ≡ key_at fs keys m.place = same ∙ same_key fs keys r ∙ ap (key_at fs keys) (sym place) in
              (edges, found, (list (record { label = l; to = k })).1 (m, has_m, both_edge l k m.site (key_at fs keys m.place) (sym site) to)),
        )

    tops_stored : (key : ℕ) (edges : List Edge) → new key ≡ Some edges → AreTops fs keys done.facts.keys edges → (v k : ℕ) → HasEdge new key v k ↔ ((r : Place) × IsFact g (HasEdge old) (IsFirst begin) v r × (k ≡ key_of (λ i. key_at fs keys (Entered i)) r))
    tops_stored key edges found tops v k = (
      λ (others, is, has).
          let both : Some others ≡ Some edges = sym is ∙ found in
          let equal : others ≡ edges = cc in
          let (x, in_facts, same) = (tops (record { label = v; to = k })).0 (subst (λ es. Contains es (record { label = v; to = k })) equal has) in
          (x.place, subst (λ n. IsFact g (HasEdge old) (IsFirst begin) n x.place) (sym (ap (λ e. e.label) same)) ((event.closure.facts x).0 in_facts), ap (λ e. e.to) same ∙ sym (same_key fs keys x.place)),
      λ (r, fact, same).
          let x : Fact = record { node = v; place = r } in
          (edges, found, (tops (record { label = v; to = k })).1 (x, (event.closure.facts x).1 fact, both_edge v k v (key_at fs keys r) refl (same ∙ same_key fs keys r))),
    )

    pub stores : (key : ℕ) (edges : List Edge) → new key ≡ Some edges → AreTops fs keys done.facts.keys edges → IsStored g old new begin key
    stores key edges found tops = (
      λ f. key_at fs keys (Entered f),
      record {
        old = λ k l q (es, is). (
          λ (others, here, has). let both : Some others ≡ Some es = sym here ∙ grown.kept k es is in
              let equal : others ≡ es = cc in (es, is, subst (λ xs. Contains xs (record { label = l; to = q })) equal has),
          λ (others, here, has). (others, grown.kept k others here, has),
        );
        entered = links_stored;
        top = tops_stored key edges found tops;
      },
    )

-- where the edges of the calls and of the facts lead to
pub links_there : (s : States) (keys : List ℕ) (links : Links) (f : ℕ) (edges : List Edge) → AreLinkEdges links keys f edges → ((l : Link) → HasLink links f l → IsThere s (key_at (functions_of links) keys l.place)) → (e : Edge) → Contains edges e → IsThere s e.to
links_there s keys links f edges list ends e has = let (l, is, same) = (list e).0 has in subst (IsThere s) (sym (ap (λ d. d.to) same)) (ends l is)

pub tops_there : (s : States) (functions keys : List ℕ) (facts : List Fact) (edges : List Edge) → AreTops functions keys facts edges → ((x : Fact) → Contains facts x → IsThere s (key_at functions keys x.place)) → (e : Edge) → Contains edges e → IsThere s e.to
tops_there s functions keys facts edges tops ends e has = let (x, in_facts, same) = (tops e).0 has in subst (IsThere s) (sym (ap (λ d. d.to) same)) (ends x in_facts)

-- the edges of the calls that enter the function
pub list_edges : (links : Links) (keys : List ℕ) (f : ℕ) (list : List Link) (edges : List Edge) → ((l : Link) → Contains list l ↔ HasLink links f l) → ((e : Edge) → Contains edges e ↔ Has (λ l. IsLinkEdge (functions_of links) keys l e) list) → AreLinkEdges links keys f edges
list_edges links keys f list edges of are e = (
  λ has. let (l, in_list, is) = (are e).0 has in (l, (of l).0 in_list, is),
  λ (l, has, is). (are e).1 (l, (of l).1 has, is),
)

-- what is stored stays stored
pub stored_kept : (mid new : States) (done : Closure) (keys : List ℕ) → Grows mid new → AreStored mid done keys → AreStored new done keys
stored_kept mid new done keys grows stored = record {
  filled = λ i lt f at. let (edges, found, list) = stored.filled i lt f at in (edges, grows.kept (get_or keys i 0) edges found, list);
  targets = record {
    facts = λ x has. let (edges, found) = stored.targets.facts x has in (edges, grows.kept (key_at (functions_of done.links) keys x.place) edges found);
    links = λ f l has. let (edges, found) = stored.targets.links f l has in (edges, grows.kept (key_at (functions_of done.links) keys l.place) edges found);
  };
}

-- The event's own state, put under a new key.
module _ (old mid new : States) (done : Closure) (keys ks : List ℕ) (facts : List Fact) (edges state : List Edge) (same_keys : ks ≡ keys) (same_facts : facts ≡ done.facts.keys) (same_edges : state ≡ edges)
    (grown : Grows old mid) (stored : AreStored mid done keys) (tops : AreTops (functions_of done.links) ks facts edges) (grows : ((e : Edge) → Contains state e → IsThere mid e.to) → Grows mid new) where
  top_edges : AreTops (functions_of done.links) keys done.facts.keys state
  top_edges =
      subst (λ es. AreTops (functions_of done.links) keys done.facts.keys es) (sym same_edges)
      (subst (λ xs. AreTops (functions_of done.links) keys xs edges) same_facts (subst (λ is. AreTops (functions_of done.links) is facts edges) same_keys tops))

  top_put : Grows mid new
  top_put = grows (tops_there mid (functions_of done.links) keys done.facts.keys state top_edges stored.targets.facts)

  pub top_grows : Grows old new
  top_grows = grows_trans old mid new grown top_put

  pub top_stored : (g : Graph) (begin : List Fact) (key : ℕ) → IsClosed old → new key ≡ Some state → IsEvent g old begin done → IsStored g old new begin key
  top_stored g begin key closed found event = stores g old begin done event closed new keys top_grows (stored_kept mid new done keys top_put stored) key state found top_edges
