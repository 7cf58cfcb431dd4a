-- What a stack monitor stands for after one event more.
use Rattle.std.proofs.Common.{◌≡◌, ◌↔◌, ℕ, ◌+◌, ◌<◌, List, [], ◌∷◌, ◌++◌, length, get_or, Contains, Some, refl, sym, ◌∙◌, ap, subst, inl, inr, arith}
use Rattle.std.proofs.lemmas.List.Elements.{Contains-get_or, Contains-push_cases}
use Rattle.std.proofs.lemmas.Option.{slice_get-get_or}
use Rattle.dm_base.specs.declared.event.Event.{Event}
use Rattle.dm_base.specs.Trace.{erase}
use Rattle.flow_model.specs.declared.which.Which.TheVariants.{Stack}
use Rattle.flow_model.specs.declared.records.ModelFunction.{ModelFunction}
use Rattle.flow_model.specs.Graph.{Graph, HasSys, HasFunction}
use Rattle.flow_model.specs.Language.{StackRun, Reads, IsConfig}
use Rattle.flow_model.specs.Language.StackRun.{over}
use Rattle.flow_model.specs.Verdict.{IsAccepted, IsRejectedAt}
use Rattle.flow_model.proofs.Histories.{erase-null, accepted_nothing, accepted_whole, accepted_more, rejected_more}
use Rattle.flow_model.proofs.Walks.{same_entry}
use Rattle.stack_automaton.specs.declared.place.Place.{Place}
use Rattle.stack_automaton.specs.declared.place.Place.TheVariants.{Held, Entered}
use Rattle.stack_automaton.specs.declared.place.Edge.{Edge}
use Rattle.stack_automaton.specs.declared.place.Fact.{Fact}
use Rattle.dm_base.specs.Adding.{Has}
use Rattle.stack_automaton.specs.Held.{States, IsThere, HasEdge, Path, IsHeld, Leads}
use Rattle.stack_automaton.specs.Held.Path.{ends as p_ends, on as p_on}
use Rattle.stack_automaton.specs.Held.Leads.{here, on}
use Rattle.stack_automaton.specs.Event.{IsNext, IsReached, key_of, IsFact, Climbs}
use Rattle.stack_automaton.specs.Event.IsFact.{first, silent, enter, back, out}
use Rattle.stack_automaton.specs.Event.Climbs.{held, link}
use Rattle.stack_automaton.specs.Following.{IsFirst, AreHeld}
use Rattle.stack_automaton.specs.Moving.{IsReadFrom, LeadsBy, LiveAt, IsMoved}
use Rattle.stack_automaton.specs.Standing.{IsLive, IsKeyOf, HoldsConfigs}
use Rattle.stack_automaton.specs.Storing.{IsClosed, Grows, IsStored}
use Rattle.stack_automaton.proofs.PathLemmas.{path_frame}
use Rattle.stack_automaton.proofs.GrowingLemmas.{edge_there}
use Rattle.stack_automaton.proofs.EventLemmas.{stored_exact, next_exact, stored_path, linked, there, IsThereAt}

pub leads_by : (g : Graph) (s : States) (key : ℕ) (event : Event) (begin : List Fact) (edges : List Edge) → s key ≡ Some edges → ((x : Fact) → Contains begin x ↔ Has (λ e. IsReadFrom g event e x) edges) → LeadsBy g s key event begin
leads_by g s key event begin edges found is b q = (
  λ has.
      let (e, in_edges, (sys, in_sys, (from, (fits, to)))) = (is (record { node = b; place = Held q })).0 has in
      let node : b ≡ sys.to = ap (λ x. x.node) to in
      let place : ◌≡◌ {A = Place} (Held q) (Held e.to) = ap (λ x. x.place) to in
      let key_is : q ≡ e.to = cc in
      record {
        from = sys.from;
        name = sys.name;
        pattern = sys.args;
        edge = (edges, found, subst (λ n. Contains edges (record { label = sys.from; to = n })) (sym key_is) (subst (λ l. Contains edges (record { label = l; to = e.to })) (sym from) in_edges));
        has = subst (λ n. HasSys g sys.from sys.name sys.args n) (sym node) in_sys;
        fits = fits;
      },
  λ next.
      let (others, at, in_edges) = next.edge in
      let both : Some others ≡ Some edges = sym at ∙ found in
      let equal : others ≡ edges = cc in
      (is (record { node = b; place = Held q })).1 (
        record { label = next.from; to = q },
        subst (λ es. Contains es (record { label = next.from; to = q })) equal in_edges,
        (record { from = next.from; name = next.name; to = b; args = next.pattern }, next.has, (refl, (next.fits, refl))),
      ),
)

pub are_held : (g : Graph) (event : Event) (begin : List Fact) (edges : List Edge) → ((x : Fact) → Contains begin x ↔ Has (λ e. IsReadFrom g event e x) edges) → AreHeld begin
are_held g event begin edges is x has = let (e, in_edges, (sys, in_sys, (from, (fits, to)))) = (is x).0 has in (e.to, ap (λ y. y.place) to)

pub firsts_there : (g : Graph) (s : States) (key : ℕ) (event : Event) (begin : List Fact) → IsClosed s → IsThere s key → LeadsBy g s key event begin → (b q : ℕ) → IsFirst begin b q → IsThere s q
firsts_there g s key event begin closed is leads b q one = let next = (leads b q).0 one in edge_there s closed key next.from q is next.edge

pub none_next : (g : Graph) (s : States) (key : ℕ) (event : Event) (begin : List Fact) → length begin ≡ 0 → LeadsBy g s key event begin → (b q : ℕ) → IsNext g (HasEdge s) key event b q → ⊥
none_next g s key event begin empty leads b q next = let has = (leads b q).1 next in omega (arith, has.1, empty)

pub moved : (g : Graph) (old new : States) (final key : ℕ) (event : Event) (next : ℕ) (begin : List Fact) → 0 < length begin → AreHeld begin → LeadsBy g old key event begin → IsKeyOf g new final begin next → IsMoved g old new final key event next
moved g old new final key event next begin some are leads after =
    let none : Fact = record { node = 0; place = Held 0 } in
    let x : Fact = get_or begin 0 none in
    let has : Contains begin x = Contains-get_or begin 0 none some in
    let (q, place) = are x has in
    record {
      begin = begin;
      leads = leads;
      after = after;
      node = x.node;
      below = q;
      some = (leads x.node q).0 (subst (λ p. Contains begin (record { node = x.node; place = p })) place has);
    }

-- The frame: a key that is kept, with all that its edges lead to, stands as before.
module _ (old new : States) (final : ℕ) (Kept : ℕ → Type 0) (same : (k l q : ℕ) → Kept k → HasEdge new k l q ↔ HasEdge old k l q) (closed : (k l q : ℕ) → Kept k → HasEdge old k l q → Kept q) where
  pub leads_old : {k q : ℕ} → Kept k → Leads (HasEdge new) k q → Leads (HasEdge old) k q × Kept q
  leads_old is here = (here, is)
  leads_old is (on {k = k} {l = l} {q = q} edge rest) =
      let was = (same k l q is).0 edge in
      let more = leads_old (closed k l q is was) rest in
      (on was more.0, more.1)

  pub live_framed : (key : ℕ) → Kept key → IsLive old final key → IsLive new final key
  live_framed key is live l r q edge leads =
      let was = (same key l r is).0 edge in
      let more = leads_old (closed key l r is was) leads in
      let (z, path) = live l r q was more.0 in
      (z, (path_frame (HasEdge old) (HasEdge new) final Kept same closed q z more.1).1 path)

  pub stands_framed : (key : ℕ) (g : Graph) (bound : ℕ) (h : List Event) → Kept key → IsThere new key → HoldsConfigs old final key g bound h → HoldsConfigs new final key g bound h
  stands_framed key g bound h is is_there stands = record {
    accepted = stands.accepted;
    holds = λ v z. let frame = path_frame (HasEdge old) (HasEdge new) final Kept same closed key (v ∷ z) is in
        (λ path. (stands.holds v z).0 (frame.0 path), λ config. frame.1 ((stands.holds v z).1 config));
    there = is_there;
    live = live_framed key is stands.live;
  }

pub grown_same : (old new : States) → Grows old new → (k l q : ℕ) → IsThere old k → HasEdge new k l q ↔ HasEdge old k l q
grown_same old new grows k l q (es, is) = (
  λ (others, found, has). let both : Some others ≡ Some es = sym found ∙ grows.kept k es is in
      let equal : others ≡ es = cc in (es, is, subst (λ xs. Contains xs (record { label = l; to = q })) equal has),
  λ (others, found, has). (others, grows.kept k others found, has),
)

pub stands_grown : (old new : States) (final key : ℕ) (g : Graph) (bound : ℕ) (h : List Event) → IsClosed old → Grows old new → HoldsConfigs old final key g bound h → HoldsConfigs new final key g bound h
stands_grown old new final key g bound h closed grows stands =
    let (edges, found) = stands.there in
    stands_framed old new final (IsThere old) (grown_same old new grows) (edge_there old closed) key g bound h stands.there (edges, grows.kept key edges found) stands

-- A key that is that of an event stays so while the pool grows.
module _ (g : Graph) (old new : States) (final : ℕ) (closed : IsClosed old) (grows : Grows old new) where
  path_grown : (q : ℕ) (z : List ℕ) → IsThere old q → Path (HasEdge new) final q z ↔ Path (HasEdge old) final q z
  path_grown q z is = path_frame (HasEdge old) (HasEdge new) final (IsThere old) (grown_same old new grows) (edge_there old closed) q z is

  there_grown : (q : ℕ) → IsThere old q → IsThere new q
  there_grown q (edges, found) = (edges, grows.kept q edges found)

  pub reached_grown : (begin : List Fact) → ((b q : ℕ) → IsFirst begin b q → IsThere old q) → (v : ℕ) (z : List ℕ) → IsReached g (HasEdge new) (IsFirst begin) final v z ↔ IsReached g (HasEdge old) (IsFirst begin) final v z
  reached_grown begin below v z = (
    λ (b, q, y, is, path, run). (b, q, y, is, (path_grown q y (below b q is)).0 path, run),
    λ (b, q, y, is, path, run). (b, q, y, is, (path_grown q y (below b q is)).1 path, run),
  )

  pub key_grown : (begin : List Fact) (key : ℕ) → IsKeyOf g old final begin key → IsKeyOf g new final begin key
  key_grown begin key is = record {
    below = λ b q first. there_grown q (is.below b q first);
    holds = λ v z.
        let path = path_grown key (v ∷ z) is.there in
        let reached = reached_grown begin is.below v z in
        (λ held. reached.1 ((is.holds v z).0 (path.0 held)), λ from. path.1 ((is.holds v z).1 (reached.0 from)));
    there = there_grown key is.there;
    live = live_framed old new final (IsThere old) (grown_same old new grows) (edge_there old closed) key is.there is.live;
  }

-- What is stored of an event that begins with these facts.
module _ (g : Graph) (old new : States) (final next : ℕ) (begin : List Fact) (closed : IsClosed old) (empty : old final ≡ Some []) (stored : IsStored g old new begin next) (live_first : (b q : ℕ) → IsFirst begin b q → LiveAt old final q) where
  no_edges : (l q : ℕ) → HasEdge old final l q → ⊥
  no_edges l q (edges, found, has) =
      let both : Some edges ≡ Some [] = sym found ∙ empty in
      let none : edges ≡ [] = cc in
      let inside : Contains [] (record { label = l; to = q }) = subst (λ es. Contains es (record { label = l; to = q })) none has in
      omega (arith, inside.1)

  firsts : (b q : ℕ) → IsFirst begin b q → IsThere old q
  firsts b q is = (live_first b q is).0

  live_closed : (k l q : ℕ) → LiveAt old final k → HasEdge old k l q → LiveAt old final q
  live_closed k l q is edge = (edge_there old closed k l q is.0 edge, λ r leads. is.1 r (on edge leads))

  live_place : {v : ℕ} {p : Place} → IsFact g (HasEdge old) (IsFirst begin) v p → IsThereAt g (HasEdge old) (IsFirst begin) (LiveAt old final) live_closed live_first p
  live_place fact = there g (HasEdge old) (IsFirst begin) (LiveAt old final) live_closed live_first fact

  climb_of : {v : ℕ} {p : Place} → IsFact g (HasEdge old) (IsFirst begin) v p → (z : List ℕ) × Climbs g (HasEdge old) (IsFirst begin) final p z
  climb_of (first {b = b} {q = q} is) = let (z, path) = (live_first b q is).1 q here in (z, held path)
  climb_of (silent fact has) = climb_of fact
  climb_of (enter {a = a} {s = s} {b = b} {entry = entry} {exit = exit} fact call at) = let (z, climb) = climb_of fact in (s ∷ z, link (a, b, entry, exit, fact, call, at) climb)
  climb_of (back {s = s} {q = q} {r = r} fact edge call at) = let (z, path) = (live_place fact).1 r (on edge here) in (z, held path)
  climb_of (out fact from into call at) = climb_of from

  live_old : {q r : ℕ} → LiveAt old final q → Leads (HasEdge new) q r → (z : List ℕ) × Path (HasEdge new) final r z
  live_old {q = q} {r = r} is leads =
      let old_same : (k l i : ℕ) → IsThere old k → HasEdge new k l i ↔ HasEdge old k l i = stored.1.old in
      let was = leads_old old new final (IsThere old) old_same (edge_there old closed) is.0 leads in
      let (z, path) = is.1 r was.0 in
      (z, (path_frame (HasEdge old) (HasEdge new) final (IsThere old) old_same (edge_there old closed) r z was.1).1 path)

  live_new : {k r : ℕ} → Leads (HasEdge new) k r → (p : Place) → k ≡ key_of stored.0 p → (v : ℕ) → IsFact g (HasEdge old) (IsFirst begin) v p → (z : List ℕ) × Path (HasEdge new) final r z
  live_new {r = r} leads (Held q) is v fact = live_old (live_place fact) (subst (λ n. Leads (HasEdge new) n r) is leads)
  live_new here (Entered f) is v fact =
      let (z, climb) = climb_of fact in
      let path = stored_path g (HasEdge old) (HasEdge new) (IsFirst begin) (IsThere old) stored.0 next final stored.1 (edge_there old closed) firsts (there g (HasEdge old) (IsFirst begin) (IsThere old) (edge_there old closed) firsts fact) climb in
      (z, subst (λ n. Path (HasEdge new) final n z) (sym is) path)
  live_new (on {l = l} {q = q} edge rest) (Entered f) is v fact =
      let (s, p, into) = linked g (HasEdge old) (IsFirst begin) fact in
      let (r, (a, b, m, n, from, call, at), same) = (stored.1.entered f s p into l q).0 (subst (λ n. HasEdge new n l q) is edge) in
      live_new rest r same a from

  pub settled_live : IsLive new final next
  settled_live l r q edge leads = let (p, fact, same) = (stored.1.top l r).0 edge in live_new leads p same l fact

  pub settled_exact : (v : ℕ) (z : List ℕ) → Path (HasEdge new) final next (v ∷ z) ↔ IsReached g (HasEdge old) (IsFirst begin) final v z
  settled_exact v z = stored_exact g (HasEdge old) (HasEdge new) (IsFirst begin) (IsThere old) stored.0 next final stored.1 (edge_there old closed) firsts ([], empty) no_edges v z

-- the key of what is stored is that of the event
pub key_stored : (g : Graph) (old new : States) (final next : ℕ) (begin : List Fact) → IsClosed old → old final ≡ Some [] → Grows old new → IsStored g old new begin next → IsThere new next → ((b q : ℕ) → IsFirst begin b q → LiveAt old final q) → IsKeyOf g new final begin next
key_stored g old new final next begin closed empty grows stored next_there live =
    let below : (b q : ℕ) → IsFirst begin b q → IsThere old q = λ b q is. (live b q is).0 in
    record {
      below = λ b q is. let (edges, found) = below b q is in (edges, grows.kept q edges found);
      holds = λ v z.
          let settled = settled_exact g old new final next begin closed empty stored live v z in
          let reached = reached_grown g old new final closed grows begin below v z in
          (λ path. reached.1 (settled.0 path), λ from. settled.1 (reached.0 from));
      there = next_there;
      live = settled_live g old new final next begin closed empty stored live;
    }

-- below the facts with which an event begins at a live key are live keys
pub firsts_live : (g : Graph) (s : States) (final key : ℕ) (event : Event) (begin : List Fact) → IsClosed s → IsThere s key → IsLive s final key → LeadsBy g s key event begin → (b q : ℕ) → IsFirst begin b q → LiveAt s final q
firsts_live g s final key event begin closed is live leads b q one =
    let step = (leads b q).0 one in
    (edge_there s closed key step.from q is step.edge, λ r below. live step.from q r step.edge below)

-- One system call more.
module _ (g : Graph) (old new : States) (final key : ℕ) (event : Event) (bound : ℕ) (h : List Event) (call : erase (event ∷ []) ≡ event ∷ []) (closed : IsClosed old) (stands : HoldsConfigs old final key g bound h) where
  reads : (v : ℕ) (z : List ℕ) → IsConfig g (h ++ event ∷ []) v z → Reads Stack g (h ++ event ∷ [])
  reads v z (entry, exit, at, run) = (entry, exit, v, z, at, run)

  pub stands_refused : ((b q : ℕ) → IsNext g (HasEdge old) key event b q → ⊥) → IsRejectedAt Stack g bound (h ++ event ∷ []) (length h + 1)
  stands_refused none = rejected_more Stack g bound h event stands.accepted (λ (entry, exit, v, z, at, run).
      let (b, q, y, next, path, rest) = (next_exact g (HasEdge old) key final h stands.holds event call v z).1 (entry, exit, at, run) in
      none b q next)

  module _ (next : ℕ) (grows : Grows old new) (moves : IsMoved g old new final key event next) where
    first_there : (b q : ℕ) → IsFirst moves.begin b q → IsThere old q
    first_there = firsts_there g old key event moves.begin closed stands.there moves.leads

    reached : (v : ℕ) (z : List ℕ) → IsReached g (HasEdge old) (IsFirst moves.begin) final v z ↔ IsReached g (HasEdge old) (IsNext g (HasEdge old) key event) final v z
    reached v z = (
      λ (b, q, y, is, path, run). (b, q, y, (moves.leads b q).0 is, path, run),
      λ (b, q, y, is, path, run). (b, q, y, (moves.leads b q).1 is, path, run),
    )

    moved_holds : (v : ℕ) (z : List ℕ) → IsHeld new final next v z ↔ IsConfig g (h ++ event ∷ []) v z
    moved_holds v z =
        let exact = next_exact g (HasEdge old) key final h stands.holds event call v z in
        let grown = reached_grown g old new final closed grows moves.begin first_there v z in
        let after = moves.after.holds v z in
        (λ path. exact.0 ((reached v z).0 (grown.0 (after.0 path))), λ config. after.1 (grown.1 ((reached v z).1 (exact.1 config))))

    moved_reads : Reads Stack g (h ++ event ∷ [])
    moved_reads =
        let (z, path) = stands.live moves.some.from moves.below moves.below moves.some.edge here in
        reads moves.node z ((next_exact g (HasEdge old) key final h stands.holds event call moves.node z).0 (moves.node, moves.below, z, moves.some, path, over))

    pub stands_moved : HoldsConfigs new final next g bound (h ++ event ∷ [])
    stands_moved = record {
      accepted = accepted_more Stack g bound h event stands.accepted moved_reads;
      holds = moved_holds;
      there = moves.after.there;
      live = moves.after.live;
    }

pub no_edges_at : (s : States) (final : ℕ) → s final ≡ Some [] → (l q : ℕ) → HasEdge s final l q → ⊥
no_edges_at s final empty l q (edges, found, has) =
    let both : Some edges ≡ Some [] = sym found ∙ empty in
    let none : edges ≡ [] = cc in
    let inside : Contains [] (record { label = l; to = q }) = subst (λ es. Contains es (record { label = l; to = q })) none has in
    omega (arith, inside.1)

path_alone : (s : States) (final : ℕ) → s final ≡ Some [] → {k : ℕ} {z : List ℕ} → Path (HasEdge s) final k z → k ≡ final → z ≡ []
path_alone s final empty p_ends is = refl
path_alone s final empty (p_on {l = l} {q = q} edge rest) is = absurd (no_edges_at s final empty l q (subst (λ n. HasEdge s n l q) is edge))

leads_alone : (s : States) (final : ℕ) → s final ≡ Some [] → {k r : ℕ} → Leads (HasEdge s) k r → k ≡ final → r ≡ final
leads_alone s final empty here is = is
leads_alone s final empty (on {l = l} {q = q} edge rest) is = absurd (no_edges_at s final empty l q (subst (λ n. HasEdge s n l q) is edge))

-- Before the first event.
module _ (g : Graph) (old new : States) (final next entry exit bound : ℕ) (begin : List Fact) (closed : IsClosed old) (empty : old final ≡ Some []) (stored : IsStored g old new begin next) (next_there : IsThere new next)
    (only : (b q : ℕ) → IsFirst begin b q ↔ ((b ≡ entry) × (q ≡ final))) (function : HasFunction g g.start entry exit) where
  first_live : (b q : ℕ) → IsFirst begin b q → LiveAt old final q
  first_live b q is = let at = ((only b q).0 is).1 in subst (LiveAt old final) (sym at) (([], empty), λ r leads. ([], subst (λ n. Path (HasEdge old) final n []) (sym (leads_alone old final empty leads refl)) p_ends))

  first_holds : (v : ℕ) (z : List ℕ) → IsHeld new final next v z ↔ IsConfig g [] v z
  first_holds v z =
      let settled = settled_exact g old new final next begin closed empty stored first_live v z in (
        λ path.
            let (b, q, y, is, below, run) = settled.0 path in
            let (at, last) = (only b q).0 is in
            let none : y ≡ [] = path_alone old final empty below last in
            (entry, exit, function, subst (λ n. StackRun g n [] [] v z) at (subst (λ w. StackRun g b w [] v z) none run)),
        λ (m, n, f, run).
            settled.1 (entry, final, [], (only entry final).1 (refl, refl), p_ends, subst (λ i. StackRun g i [] [] v z) (same_entry f function) run),
      )

  pub stands_first : HoldsConfigs new final next g bound []
  stands_first = record {
    accepted = accepted_nothing Stack g bound (entry, exit, entry, [], function, over);
    holds = first_holds;
    there = next_there;
    live = settled_live g old new final next begin closed empty stored first_live;
  }

pub empty_accepted : (g : Graph) (bound entry exit : ℕ) → HasFunction g g.start entry exit → IsAccepted Stack g bound []
empty_accepted g bound entry exit function = accepted_nothing Stack g bound (entry, exit, entry, [], function, over)

-- a null call
pub stands_null : (s : States) (final key : ℕ) (g : Graph) (bound : ℕ) (h : List Event) (e : Event) → erase (e ∷ []) ≡ [] → HoldsConfigs s final key g bound h → HoldsConfigs s final key g bound (h ++ e ∷ [])
stands_null s final key g bound h e null stands =
    let same : erase h ≡ erase (h ++ e ∷ []) = sym (erase-null h e null) in
    let read : Reads Stack g h = accepted_whole Stack g bound h stands.accepted in
    let P : List Event → Type 0 = λ w. (entry : ℕ) × (exit : ℕ) × (a : ℕ) × (z : List ℕ) × HasFunction g g.start entry exit × StackRun g entry [] w a z in
    let Q : List Event → ℕ → List ℕ → Type 0 = λ w v z. (entry : ℕ) × (exit : ℕ) × HasFunction g g.start entry exit × StackRun g entry [] w v z in
    record {
      accepted = accepted_more Stack g bound h e stands.accepted (subst P same read);
      holds = λ v z. subst (λ w. IsHeld s final key v z ↔ Q w v z) same (stands.holds v z);
      there = stands.there;
      live = stands.live;
    }

-- the function at the start's place is the start
pub has_start : (g : Graph) (fs : List ModelFunction) (s : ℕ) (one : ModelFunction) → fs ≡ g.functions → s ≡ g.start → g.start < length g.functions → one ≡ get_or fs s one → HasFunction g g.start one.entry one.exit
has_start g fs s one same at lt is =
    let P : List ModelFunction → ℕ → Type 0 = λ xs i. one ≡ get_or xs i one in
    let here : one ≡ get_or g.functions g.start one = subst (P g.functions) at (subst (λ xs. P xs s) same is) in
    record { one = one; has = slice_get-get_or g.functions g.start one lt ∙ ap Some (sym here); begins = refl; ends = refl }

pub first_only : (begin : List Fact) (entry final : ℕ) → begin ≡ (record { node = entry; place = Held final }) ∷ [] → (b q : ℕ) → IsFirst begin b q ↔ ((b ≡ entry) × (q ≡ final))
first_only begin entry final same b q = (
  λ has. elim (Contains-push_cases [] (record { node = entry; place = Held final }) (record { node = b; place = Held q }) (subst (λ xs. Contains xs (record { node = b; place = Held q })) same has)) [
    | inl none ↦ absurd (omega (arith, none.1))
    | inr e ↦
        let place : ◌≡◌ {A = Place} (Held q) (Held final) = sym (ap (λ x. x.place) e) in
        (sym (ap (λ x. x.node) e), let at : q ≡ final = cc in at)
  ],
  λ (node, place).
      let one : Fact = record { node = entry; place = Held final } in
      let P : ℕ → ℕ → Type 0 = λ n k. Contains (one ∷ []) (record { node = n; place = Held k }) in
      subst (λ xs. Contains xs (record { node = b; place = Held q })) (sym same) (subst (λ n. P n q) (sym node) (subst (λ k. P entry k) (sym place) (0, omega arith, refl))),
)
