-- What monitors stand for in a pool that grows, and in one that is swept.
use Rattle.std.proofs.Common.{◌≡◌, ◌≢◌, ◌⊎◌, ◌↔◌, ℕ, ◌+◌, List, [], ◌∷◌, ◌++◌, length, Contains, Some, None, refl, sym, ◌∙◌, ap, subst, inl, inr, arith}
use Rattle.std.proofs.lemmas.List.Elements.{Contains-append_left, Contains-push, Contains-push_cases}
use Rattle.std.proofs.lemmas.Bool.{cases_eq}
use Rattle.std.specs.FinMap as map
use Rattle.slab.proofs.SlabLemmas.{Contains-cons, Contains-cons_cases}
use Rattle.dm_base.specs.declared.event.Event.{Event}
use Rattle.dm_base.specs.declared.verdict.Step.{Step}
use Rattle.dm_base.specs.declared.verdict.Step.TheVariants.{Kept, Rejected}
use Rattle.dm_base.specs.Trace.{erase}
use Rattle.flow_model.specs.declared.which.Which.TheVariants.{Stack}
use Rattle.flow_model.specs.Graph.{Graph, HasFunction}
use Rattle.flow_model.specs.Verdict.{IsAccepted, IsStep}
use Rattle.flow_model.proofs.Histories.{rejected_stays}
use Rattle.stack_automaton.specs.declared.place.Edge.{Edge}
use Rattle.stack_automaton.specs.declared.place.Place.{Place}
use Rattle.stack_automaton.specs.declared.place.Place.TheVariants.{Held}
use Rattle.stack_automaton.specs.declared.place.Fact.{Fact}
use Rattle.stack_automaton.specs.Event.{IsNext}
use Rattle.stack_automaton.specs.Following.{IsFirst, AreHeld}
use Rattle.stack_automaton.specs.Held.{IsThere, HasEdge, Leads}
use Rattle.stack_automaton.specs.Held.Leads.{here}
use Rattle.stack_automaton.specs.Moving.{LiveAt, IsMoved}
use Rattle.stack_automaton.specs.Seen.{Contents, Memory, Position, edges_at}
use Rattle.stack_automaton.specs.Standing.{IsPool, IsPoolOf, IsKeyOf, IsLive, HoldsConfigs, StandsFor, Extends, IsNeeded, AreNoted, AreNeeded}
use Rattle.stack_automaton.specs.Standing.StandsFor.{kept, rejected}
use Rattle.stack_automaton.specs.Storing.{Grows, IsStored}
use Rattle.stack_automaton.proofs.GrowingLemmas.{edge_there}
use Rattle.stack_automaton.proofs.NotingLemmas.{leads_more, leads_closed, leads_trans, same_noted, leads_new, swept_closed, swept_empty}
use Rattle.stack_automaton.proofs.StandingLemmas.{key_grown, key_stored, stands_grown, stands_framed, leads_old, stands_null, stands_moved, stands_refused, stands_first}

-- Between two pools.
module _ (old new : Contents) (grows : Grows (edges_at old) (edges_at new)) (final : new.final ≡ old.final) where
  pub pool_grown : IsPool old → IsPool new
  pool_grown pool = record { closed = grows.closed pool.closed; empty = ap (edges_at new) final ∙ grows.kept old.final [] pool.empty }

  pub pool_of_grown : (g : Graph) → new.remembered ≡ old.remembered → IsPoolOf old g → IsPoolOf new g
  pool_of_grown g same was = record {
    pool = pool_grown was.pool;
    remembered = λ m has. subst (λ n. IsKeyOf g (edges_at new) n m.begin m.key) (sym final)
        (key_grown g (edges_at old) (edges_at new) old.final was.pool.closed grows m.begin m.key (was.remembered m (subst (λ ms. Contains ms m) same has)));
  }

  pub extends : Extends old new
  extends = record { kept = grows.kept; final = final }

  pub stands_still : IsPool old → (m : Position) (g : Graph) (bound : ℕ) (h : List Event) → StandsFor m old g bound h → StandsFor m new g bound h
  stands_still pool m g bound h (kept is holds) = kept is (subst (λ n. HoldsConfigs (edges_at new) n m.key g bound h) (sym final) (stands_grown (edges_at old) (edges_at new) old.final m.key g bound h pool.closed grows holds))
  stands_still pool m g bound h (rejected k is at) = rejected k is at

-- a pool in which no monitor is noted has no notes
pub no_notes : (p : Contents) → AreNoted p [] → (k : ℕ) → Contains p.noted k → ⊥
no_notes p notes k has = let (m, none, live, leads) = (notes.is k).0 has in omega (arith, none.1)

pub noted_nothing : (p : Contents) → ((k : ℕ) → Contains p.noted k → ⊥) → AreNoted p []
noted_nothing p none = record {
  is = λ k. (λ has. absurd (none k has), λ (m, has, live, leads). absurd (omega (arith, has.1)));
  there = λ k has. absurd (none k has);
}

pub notes_none : (p : Contents) → p.noted ≡ [] → AreNoted p []
notes_none p none = noted_nothing p (λ k has. let inside : Contains [] k = subst (λ ks. Contains ks k) none has in omega (arith, inside.1))

pub notes_still : (old new : Contents) → new.noted ≡ old.noted → AreNoted old [] → AreNoted new []
notes_still old new same notes = noted_nothing new (λ k has. no_notes old notes k (subst (λ ns. Contains ns k) same has))

-- what the last answer says of the history
pub answered : (m : Position) (p : Contents) (g : Graph) (bound : ℕ) (h : List Event) (step : Step) → m.answer ≡ step → StandsFor m p g bound h → IsStep Stack g bound h step
answered m p g bound h step same (kept is holds) = subst (IsStep Stack g bound h) (sym is ∙ same) holds.accepted
answered m p g bound h step same (rejected k is at) = subst (IsStep Stack g bound h) (sym is ∙ same) (k, at)

-- a monitor that has answered Kept, and one that has answered Rejected
pub holding : (m : Position) (p : Contents) (g : Graph) (bound : ℕ) (h : List Event) → m.answer ≡ Kept → StandsFor m p g bound h → HoldsConfigs (edges_at p) p.final m.key g bound h
holding m p g bound h same (kept is holds) = holds
holding m p g bound h same (rejected k is at) = let both : Kept ≡ Rejected = sym same ∙ is in absurd cc

-- its key is live, as is the number that it was read from
pub key_live : (m : Position) (p : Contents) (g : Graph) (bound : ℕ) (h : List Event) (key : ℕ) → m.answer ≡ Kept → m.key ≡ key → StandsFor m p g bound h → IsLive (edges_at p) p.final key
key_live m p g bound h key was same stands = subst (IsLive (edges_at p) p.final) same (holding m p g bound h was stands).live

pub refused : (m : Position) (p : Contents) (g : Graph) (bound : ℕ) (h : List Event) (e : Event) → m.answer ≡ Rejected → StandsFor m p g bound h → StandsFor m p g bound (h ++ e ∷ [])
refused m p g bound h e same (kept is holds) = let both : Kept ≡ Rejected = sym is ∙ same in absurd cc
refused m p g bound h e same (rejected k is at) = rejected k is (rejected_stays Stack g bound h e k at)

-- One event more.
module _ (m n : Position) (old new : Contents) (g : Graph) (bound : ℕ) (h : List Event) (e : Event) (pool : IsPool old) (final : new.final ≡ old.final) (was : m.answer ≡ Kept) (stands : StandsFor m old g bound h) where
  holds : HoldsConfigs (edges_at old) old.final m.key g bound h
  holds = holding m old g bound h was stands

  pub after_call : erase (e ∷ []) ≡ e ∷ [] → n.answer ≡ Kept → Grows (edges_at old) (edges_at new) → IsMoved g (edges_at old) (edges_at new) old.final m.key e n.key → StandsFor n new g bound (h ++ e ∷ [])
  after_call call now grows moves = kept now (subst (λ k. HoldsConfigs (edges_at new) k n.key g bound (h ++ e ∷ [])) (sym final) (stands_moved g (edges_at old) (edges_at new) old.final m.key e bound h call pool.closed holds n.key grows moves))

  pub after_refusal : erase (e ∷ []) ≡ e ∷ [] → n.answer ≡ Rejected → ((b q : ℕ) → IsNext g (HasEdge (edges_at old)) m.key e b q → ⊥) → StandsFor n new g bound (h ++ e ∷ [])
  after_refusal call now none = rejected (length h + 1) now (stands_refused g (edges_at old) (edges_at new) old.final m.key e bound h call pool.closed holds none)

pub after_null : (m : Position) (p : Contents) (g : Graph) (bound : ℕ) (h : List Event) (e : Event) → m.answer ≡ Kept → erase (e ∷ []) ≡ [] → StandsFor m p g bound h → StandsFor m p g bound (h ++ e ∷ [])
after_null m p g bound h e was null stands = kept was (stands_null (edges_at p) p.final m.key g bound h e null (holding m p g bound h was stands))

-- the notes of one monitor more
pub notes_more : (old new : Contents) (ms : List Position) (m : Position) (g : Graph) (bound : ℕ) (h : List Event) → new.entries ≡ old.entries → m.answer ≡ Kept → IsPool old → StandsFor m old g bound h
    → ((k : ℕ) → Contains new.noted k ↔ ((j : ℕ) × (Contains old.noted j ⊎ (j ≡ m.key)) × Leads (HasEdge (edges_at old)) j k)) → AreNoted old ms → AreNoted new (ms ++ m ∷ [])
notes_more old new ms m g bound h same was pool stands is notes =
    let s = edges_at old in
    let mine = (holding m old g bound h was stands).there in
    let at : (k : ℕ) → Contains new.noted k ↔ IsNeeded s (ms ++ m ∷ []) k = λ k. (
      λ has. let (j, from, leads) = (is k).0 has in elim from as (λ _. IsNeeded s (ms ++ m ∷ []) k) [
        | inl before ↦ let (n, in_ms, live, first) = (notes.is j).0 before in (n, Contains-append_left ms (m ∷ []) n in_ms, live, leads_trans first leads)
        | inr e ↦ (m, Contains-push ms m, was, subst (λ i. Leads (HasEdge s) i k) e leads)
      ],
      λ (n, has, live, leads). elim (Contains-push_cases ms m n has) as (λ _. Contains new.noted k) [
        | inl before ↦ (is k).1 (n.key, inl ((notes.is n.key).1 (n, before, live, here)), leads)
        | inr e ↦ let key : n.key ≡ m.key = ap (λ x. x.key) (sym e) in (is k).1 (n.key, inr key, leads)
      ],
    ) in
    let found : (k : ℕ) → Contains new.noted k → IsThere s k = λ k has. let (j, from, leads) = (is k).0 has in
    leads_closed (IsThere s) (edge_there s pool.closed) leads (elim from as (λ _. IsThere s j) [ inl before ↦ notes.there j before | inr e ↦ subst (IsThere s) (sym e) mine ]) in
    record {
      is = λ k. let both = at k in (λ has. subst (λ es. IsNeeded (map.get es) (ms ++ m ∷ []) k) (sym same) (both.0 has), λ need. both.1 (subst (λ es. IsNeeded (map.get es) (ms ++ m ∷ []) k) same need));
      there = λ k has. subst (λ es. IsThere (map.get es) k) (sym same) (found k has);
    }

-- a monitor that has not answered Kept notes nothing
pub notes_refused : (p : Contents) (ms : List Position) (m : Position) → (m.answer ≡ Kept → ⊥) → AreNoted p ms → AreNoted p (ms ++ m ∷ [])
notes_refused p ms m not notes = record {
  is = λ k. (
    λ has. let (n, in_ms, live, leads) = (notes.is k).0 has in (n, Contains-append_left ms (m ∷ []) n in_ms, live, leads),
    λ (n, has, live, leads). elim (Contains-push_cases ms m n has) as (λ _. Contains p.noted k) [
      | inl before ↦ (notes.is k).1 (n, before, live, leads)
      | inr e ↦ absurd (not (ap (λ x. x.answer) e ∙ live))
    ],
  );
  there = notes.there;
}

pub decide : (xs : List ℕ) (k : ℕ) → Contains xs k ⊎ (Contains xs k → ⊥)
decide [] k = inr (λ has. omega (arith, has.1))
decide (x ∷ xs) k = elim (cases_eq x k) as (λ _. Contains (x ∷ xs) k ⊎ (Contains (x ∷ xs) k → ⊥)) [
  | inl e ↦ inl (subst (λ y. Contains (x ∷ xs) y) e (0, omega arith, refl))
  | inr ne ↦ elim (decide xs k) as (λ _. Contains (x ∷ xs) k ⊎ (Contains (x ∷ xs) k → ⊥)) [
    | inl has ↦ inl (Contains-cons x k xs has)
    | inr not ↦ inr (λ has. elim (Contains-cons_cases x k xs has) [ inl e ↦ ne e | inr more ↦ not more ])
  ]
]

-- A sweep.
module _ (old new : Contents) (final : new.final ≡ old.final) (still : (k : ℕ) → Contains old.noted k ⊎ (k ≡ old.final) → edges_at new k ≡ edges_at old k) (gone : (k : ℕ) → (Contains old.noted k → ⊥) → k ≢ old.final → edges_at new k ≡ None)
    (ms : List Position) (notes : AreNoted old ms) where
  closed : (k l q : ℕ) → Contains old.noted k → HasEdge (edges_at old) k l q → Contains old.noted q
  closed k l q has edge = let (m, in_ms, live, leads) = (notes.is k).0 has in (notes.is q).1 (m, in_ms, live, leads_more leads edge)

  pub pool_swept : IsPool old → IsPool new
  pool_swept pool = record {
    closed = swept_closed (edges_at old) (edges_at new) old.noted old.final pool.closed pool.empty closed still gone (decide old.noted);
    empty = ap (edges_at new) final ∙ swept_empty (edges_at old) (edges_at new) old.noted old.final pool.closed pool.empty closed still gone (decide old.noted);
  }

  -- what a sweep keeps
  pub stands_swept : (m : Position) (g : Graph) (bound : ℕ) (h : List Event) → Contains ms m → StandsFor m old g bound h → StandsFor m new g bound h
  stands_swept m g bound h has (rejected k is at) = rejected k is at
  stands_swept m g bound h has (kept is holds) =
      let in_notes : Contains old.noted m.key = (notes.is m.key).1 (m, has, is, here) in
      let (edges, found) = holds.there in
      kept is (subst (λ n. HoldsConfigs (edges_at new) n m.key g bound h) (sym final)
      (stands_framed (edges_at old) (edges_at new) old.final (Contains old.noted) (same_noted (edges_at old) (edges_at new) old.noted old.final still) closed m.key g bound h in_notes (edges, still m.key (inl in_notes) ∙ found) holds))

  -- what a sweep leaves is what is needed
  pub needed_swept : IsPool old → AreNeeded new ms
  needed_swept pool k = (
    λ (edges, found). elim (decide old.noted k) as (λ _. (k ≡ new.final) ⊎ IsNeeded (edges_at new) ms k) [
      | inl has ↦ let (m, in_ms, live, leads) = (notes.is k).0 has in
          inr (m, in_ms, live, leads_new (edges_at old) (edges_at new) old.noted old.final still closed ((notes.is m.key).1 (m, in_ms, live, here)) leads)
      | inr not ↦ elim (cases_eq k old.final) as (λ _. (k ≡ new.final) ⊎ IsNeeded (edges_at new) ms k) [
        | inl e ↦ inl (e ∙ sym final)
        | inr ne ↦ let both : Some edges ≡ None = sym found ∙ gone k not ne in absurd cc
      ]
    ],
    λ s. elim s as (λ _. IsThere (edges_at new) k) [
      | inl e ↦ ([], still k (inr (e ∙ final)) ∙ ap (edges_at old) (e ∙ final) ∙ pool.empty)
      | inr (m, in_ms, live, leads) ↦
          let back = leads_old (edges_at old) (edges_at new) old.final (Contains old.noted) (same_noted (edges_at old) (edges_at new) old.noted old.final still) closed ((notes.is m.key).1 (m, in_ms, live, here)) leads in
          let (edges, found) = notes.there k back.1 in
          (edges, still k (inl back.1) ∙ found)
    ],
  )

-- a monitor whose history is not accepted needs nothing
pub stands_over : (m : Position) (old new : Contents) (g : Graph) (bound : ℕ) (h : List Event) → (IsAccepted Stack g bound h → ⊥) → StandsFor m old g bound h → StandsFor m new g bound h
stands_over m old new g bound h not (kept is holds) = absurd (not holds.accepted)
stands_over m old new g bound h not (rejected k is at) = rejected k is at

-- the first fact of a run
pub first_held : (begin : List Fact) (entry final : ℕ) → ((x : Fact) → Contains begin x ↔ (x ≡ record { node = entry; place = Held final })) → AreHeld begin
first_held begin entry final is x has = (final, ap (λ y. y.place) ((is x).0 has))

first_only : (begin : List Fact) (entry final : ℕ) → ((x : Fact) → Contains begin x ↔ (x ≡ record { node = entry; place = Held final })) → (b q : ℕ) → IsFirst begin b q ↔ ((b ≡ entry) × (q ≡ final))
first_only begin entry final is b q = (
  λ has.
      let same = (is (record { node = b; place = Held q })).0 has in
      let place : ◌≡◌ {A = Place} (Held q) (Held final) = ap (λ x. x.place) same in
      (ap (λ x. x.node) same, let at : q ≡ final = cc in at),
  λ (node, place). (is (record { node = b; place = Held q })).1 (λ i. record { node = node i; place = Held (place i) }),
)

pub first_there : (p : Contents) (begin : List Fact) (entry final : ℕ) → IsPool p → final ≡ p.final → ((x : Fact) → Contains begin x ↔ (x ≡ record { node = entry; place = Held final })) → (b q : ℕ) → IsFirst begin b q → IsThere (edges_at p) q
first_there p begin entry final pool last is b q has = ([], ap (edges_at p) (((first_only begin entry final is b q).0 has).1 ∙ last) ∙ pool.empty)

-- a monitor that has just been opened
pub opened : (m : Position) (old new : Contents) (g : Graph) (bound entry exit final : ℕ) (begin : List Fact) → m.answer ≡ Kept → IsPool old → new.final ≡ old.final → final ≡ old.final → HasFunction g g.start entry exit
    → ((x : Fact) → Contains begin x ↔ (x ≡ record { node = entry; place = Held final })) → IsStored g (edges_at old) (edges_at new) begin m.key → IsThere (edges_at new) m.key → StandsFor m new g bound []
opened m old new g bound entry exit final begin now pool same last function is stored found =
    kept now (subst (λ n. HoldsConfigs (edges_at new) n m.key g bound []) (sym same)
    (stands_first g (edges_at old) (edges_at new) old.final m.key entry exit bound begin pool.closed pool.empty stored found
    (subst (λ n. (b q : ℕ) → IsFirst begin b q ↔ ((b ≡ entry) × (q ≡ n))) last (first_only begin entry final is)) function))

-- Between two pools with the same entries.
module _ (old new : Contents) (same : new.entries ≡ old.entries) (final : new.final ≡ old.final) where
  pub pool_same : IsPool old → IsPool new
  pool_same pool = record {
    closed = subst (λ es. (k : ℕ) (edges : List Edge) (e : Edge) → map.get es k ≡ Some edges → Contains edges e → IsThere (map.get es) e.to) (sym same) pool.closed;
    empty = subst (λ es. map.get es new.final ≡ Some []) (sym same) (ap (edges_at old) final ∙ pool.empty);
  }

  pub key_same : (g : Graph) (begin : List Fact) (key : ℕ) → IsKeyOf g (edges_at old) old.final begin key → IsKeyOf g (edges_at new) new.final begin key
  key_same g begin key is = subst (λ es. IsKeyOf g (map.get es) new.final begin key) (sym same) (subst (λ n. IsKeyOf g (edges_at old) n begin key) (sym final) is)

  pub pool_of_same : new.remembered ≡ old.remembered → (g : Graph) → IsPoolOf old g → IsPoolOf new g
  pool_of_same still g was = record { pool = pool_same was.pool; remembered = λ m has. key_same g m.begin m.key (was.remembered m (subst (λ ms. Contains ms m) still has)) }

  pub stands_same : (m : Position) (g : Graph) (bound : ℕ) (h : List Event) → StandsFor m old g bound h → StandsFor m new g bound h
  stands_same m g bound h (kept is holds) = kept is (subst (λ es. HoldsConfigs (map.get es) new.final m.key g bound h) (sym same) (subst (λ n. HoldsConfigs (edges_at old) n m.key g bound h) (sym final) holds))
  stands_same m g bound h (rejected k is at) = rejected k is at

-- a pool that remembers nothing is one of each model
pub remembers_nothing : (p : Contents) (g : Graph) → p.remembered ≡ [] → IsPool p → IsPoolOf p g
remembers_nothing p g none pool = record { pool = pool; remembered = λ m has. absurd (let inside : Contains [] m = subst (λ ms. Contains ms m) none has in omega (arith, inside.1)) }

-- An event whose states are stored, and that is remembered.
module _ (old mid new : Contents) (g : Graph) (begin : List Fact) (key : ℕ) (grows : Grows (edges_at old) (edges_at mid)) (final : mid.final ≡ old.final) (still : mid.remembered ≡ old.remembered)
    (same : new.entries ≡ mid.entries) (last : new.final ≡ mid.final) (more : (m : Memory) → Contains new.remembered m → Contains mid.remembered m ⊎ (m ≡ record { begin = begin; key = key })) where
  pub arrived_grows : Grows (edges_at old) (edges_at new)
  arrived_grows = subst (λ es. Grows (edges_at old) (map.get es)) (sym same) grows

  module _ (pool : IsPoolOf old g) (live : (b q : ℕ) → IsFirst begin b q → LiveAt (edges_at old) old.final q) (stored : IsStored g (edges_at old) (edges_at mid) begin key) (found : IsThere (edges_at mid) key) where
    arrived : IsKeyOf g (edges_at new) new.final begin key
    arrived = key_same mid new same last g begin key (subst (λ n. IsKeyOf g (edges_at mid) n begin key) (sym final)
        (key_stored g (edges_at old) (edges_at mid) old.final key begin pool.pool.closed pool.pool.empty grows stored found live))

    pub arrived_key : IsKeyOf g (edges_at new) old.final begin key
    arrived_key = subst (λ n. IsKeyOf g (edges_at new) n begin key) (last ∙ final) arrived

    pub arrived_pool : IsPoolOf new g
    arrived_pool =
        let grown = pool_of_grown old mid grows final g still pool in
        record {
          pool = pool_same mid new same last grown.pool;
          remembered = λ m has. elim (more m has) as (λ _. IsKeyOf g (edges_at new) new.final m.begin m.key) [
            | inl was ↦ key_same mid new same last g m.begin m.key (grown.remembered m was)
            | inr e ↦ subst (λ (n : Memory). IsKeyOf g (edges_at new) new.final n.begin n.key) (sym e) arrived
          ];
        }
