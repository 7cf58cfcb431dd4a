-- Where the facts are closed, they hold each configuration.
use Rattle.std.proofs.Common.{◌≡◌, ℕ, ◌+◌, ◌-◌, ◌≤◌, List, [], ◌∷◌, length, take, Contains, refl, subst, arith}
use Rattle.std.proofs.lemmas.List.{length-take}
use Rattle.dm_base.specs.declared.event.Event.{Event}
use Rattle.flow_model.specs.Graph.{Graph, HasSilent, HasCall, HasFunction, Owns}
use Rattle.flow_model.specs.Language.{Quiet, Reads}
use Rattle.flow_model.specs.Language.Quiet.{silent as q_silent, enter as q_enter, leave as q_leave}
use Rattle.flow_model.specs.Rules.{IsValid}
use Rattle.certify_facts.specs.declared.fact.Fact.{Fact}
use Rattle.certify_facts.specs.declared.fact.Fact.TheVariants.{Callgraph, At, Link}
use Rattle.certify_facts.specs.declared.fact.Judge.{Judge}
use Rattle.certify_facts.specs.declared.fact.Judge.TheVariants as judges
use Rattle.certify_facts.specs.Confirms.{which_of, IsClosed, Stops}
use Rattle.certify_facts.specs.Reasons.{LeadsAt}
use Rattle.certify_facts.specs.Reasons.FollowsFrom.{silent, entered, returned, read, linked}
use Rattle.certify_facts.proofs.Walking.{WalkTo, walk_from, walk_whole}
use Rattle.certify_facts.proofs.Walking.WalkTo.{here as w_here, quietly, reading as w_reading}
use Rattle.certify_facts.proofs.Running.{RunTo, run_from, run_whole}
use Rattle.certify_facts.proofs.Running.RunTo.{here, silently, entering, leaving, reading}
use Rattle.certify_facts.proofs.Owning.{one_owner, owns_exit, owns_entry, owns_silent, owns_read, owns_call, one_end}

-- The callgraph model.
module _ (g : Graph) (t : List Event) (m : ℕ) (known : List Fact) (closed : IsClosed judges.Callgraph g t m known) (entry exit : ℕ) (start : HasFunction g g.start entry exit) where
  quiet_known : {k u v : ℕ} → Quiet g u v → Contains known (Callgraph k u) → k ≤ m → Contains known (Callgraph k v)
  quiet_known {k} {u} {v} (q_silent has) fact le = closed.one (Callgraph k u) (Callgraph k v) fact (silent (refl, has)) le
  quiet_known {k} {u} {v} (q_enter {s = s} {b = b} {f = f} {exit = end} call at) fact le = closed.one (Callgraph k u) (Callgraph k v) fact (entered s (refl, f, (b, call), (end, at))) le
  quiet_known {k} {u} {v} (q_leave {a = a} {s = s} {f = f} {entry = begin} call at) fact le = closed.one (Callgraph k u) (Callgraph k v) fact (returned s (refl, f, (begin, at), (a, call))) le

  pub walk_known : {k v : ℕ} → WalkTo g t entry k v → k ≤ m → Contains known (Callgraph k v)
  walk_known w_here le = closed.begins (Callgraph 0 entry) tt (refl, (exit, start))
  walk_known (quietly walk s) le = quiet_known s (walk_known walk le) le
  walk_known (w_reading {k = k} {u = u} {v = v} walk leads) le = closed.one (Callgraph k u) (Callgraph (k + 1) v) (walk_known walk (omega arith)) (read (refl, leads)) le

  -- no walk goes past where the facts stop
  pub walk_stops : Stops g t m known → {k v : ℕ} → WalkTo g t entry k v → k ≡ m + 1 → ⊥
  walk_stops stops w_here past = omega arith
  walk_stops stops (quietly walk s) past = walk_stops stops walk past
  walk_stops stops (w_reading {k = k} {u = u} {v = v} walk leads) past =
      let here : k ≡ m = omega arith in
      let le : k ≤ m = omega arith in
      stops (Callgraph k u) (Callgraph (k + 1) v) (walk_known walk le) here (refl, leads)

-- The sites of a stack lead along links from the activation down to the one with which the run began.
pub data Chain (g : Graph) (known : List Fact) : ℕ → ℕ → List ℕ → Type 0 where
  bottom : Chain g known 0 g.start []
  above : {i f j h a s b : ℕ} {z : List ℕ} → Contains known (Link i f j h s) → HasCall g a s b f → Owns g.functions g.nodes h b → Chain g known j h z → Chain g known i f (s ∷ z)

-- the facts hold the configuration
pub record IsKnown (g : Graph) (known : List Fact) (k v : ℕ) (z : List ℕ) : Type 0 where
  pub i : ℕ
  pub f : ℕ
  pub fact : Contains known (At k i f v)
  pub owns : Owns g.functions g.nodes f v
  pub chain : Chain g known i f z

-- The stack model.
module _ (g : Graph) (t : List Event) (m : ℕ) (known : List Fact) (closed : IsClosed judges.Stack g t m known) (valid : IsValid g) (entry exit : ℕ) (start : HasFunction g g.start entry exit) where
  silent_known : {k u v : ℕ} {z : List ℕ} → HasSilent g u v → IsKnown g known k u z → k ≤ m → IsKnown g known k v z
  silent_known {k} {u} {v} has at le = record {
    i = at.i;
    f = at.f;
    fact = closed.one (At k at.i at.f u) (At k at.i at.f v) at.fact (silent (refl, refl, refl, has)) le;
    owns = owns_silent g valid at.f u v at.owns has;
    chain = at.chain;
  }

  read_known : {k u v : ℕ} {z : List ℕ} → LeadsAt g t k u v → IsKnown g known k u z → k + 1 ≤ m → IsKnown g known (k + 1) v z
  read_known {k} {u} {v} leads at le = record {
    i = at.i;
    f = at.f;
    fact = closed.one (At k at.i at.f u) (At (k + 1) at.i at.f v) at.fact (read (refl, refl, refl, leads)) le;
    owns = owns_read g valid t at.f k u v at.owns leads;
    chain = at.chain;
  }

  enter_known : {k u s b f begin end : ℕ} {z : List ℕ} → HasCall g u s b f → HasFunction g f begin end → IsKnown g known k u z → k ≤ m → IsKnown g known k begin (s ∷ z)
  enter_known {k} {u} {s} {b} {f} {begin} {end} call function at le = record {
    i = k;
    f = f;
    fact = closed.one (At k at.i at.f u) (At k k f begin) at.fact (entered s (refl, refl, (b, call), (end, function))) le;
    owns = owns_entry g valid f begin end function;
    chain = above (closed.one (At k at.i at.f u) (Link k f at.i at.f s) at.fact (linked (refl, refl, refl, (b, call))) le) call (owns_call g valid at.f u s b f at.owns call) at.chain;
  }

  leave_chain : {k c s b h f begin end i : ℕ} {z : List ℕ} → HasCall g c s b h → HasFunction g h begin end → h ≡ f → Contains known (At k i f end) → k ≤ m → Chain g known i f (s ∷ z) → IsKnown g known k b z
  leave_chain {k} {c} {s} {b} {h} {f} {begin} {end} {i} call function same fact le (above {j = j} {h = under} {a = a} {b = d} link into owns chain) = record {
    i = j;
    f = under;
    fact = closed.both (At k i f end) (Link i f j under s) (At k j under b) fact link (refl, refl, refl, refl, refl, (begin, subst (λ n. HasFunction g n begin end) same function), (c, subst (HasCall g c s b) same call)) le;
    owns = subst (Owns g.functions g.nodes under) (one_end g valid a s d f c b h into call) owns;
    chain = chain;
  }

  leave_known : {k c s b h begin end : ℕ} {z : List ℕ} → HasCall g c s b h → HasFunction g h begin end → IsKnown g known k end (s ∷ z) → k ≤ m → IsKnown g known k b z
  leave_known {h = h} {begin = begin} {end = end} call function at le =
      leave_chain call function (one_owner g.functions g.nodes valid.entries h at.f end (owns_exit g valid h begin end function) at.owns) at.fact le at.chain

  pub run_known : {k v : ℕ} {z : List ℕ} → RunTo g t 0 entry [] k v z → k ≤ m → IsKnown g known k v z
  run_known here le = record {
    i = 0;
    f = g.start;
    fact = closed.begins (At 0 0 g.start entry) tt (refl, refl, refl, (exit, start));
    owns = owns_entry g valid g.start entry exit start;
    chain = bottom;
  }
  run_known (silently run has) le = silent_known has (run_known run le) le
  run_known (entering run call at) le = enter_known call at (run_known run le) le
  run_known (leaving run call at) le = leave_known call at (run_known run le) le
  run_known (reading {k = k} run leads) le = let less : k ≤ m = omega arith in read_known leads (run_known run less) le

  -- no run goes past where the facts stop
  pub run_stops : Stops g t m known → {k v : ℕ} {z : List ℕ} → RunTo g t 0 entry [] k v z → k ≡ m + 1 → ⊥
  run_stops stops here past = omega arith
  run_stops stops (silently run has) past = run_stops stops run past
  run_stops stops (entering run call at) past = run_stops stops run past
  run_stops stops (leaving run call at) past = run_stops stops run past
  run_stops stops (reading {k = k} {u = u} {v = v} run leads) past =
      let same : k ≡ m = omega arith in
      let le : k ≤ m = omega arith in
      let at = run_known run le in
      stops (At k at.i at.f u) (At (k + 1) at.i at.f v) at.fact same (refl, refl, refl, leads)

-- so a trace that goes past it is not in the language
pub refused_after : (judge : Judge) (g : Graph) (t : List Event) (n : ℕ) (known : List Fact) → IsValid g → 1 ≤ n → n ≤ length t → IsClosed judge g t (n - 1) known → Stops g t (n - 1) known → Reads (which_of judge) g (take n t) → ⊥
refused_after judges.Callgraph g t n known valid some le closed stops (entry, exit, a, start, walk) =
    walk_stops g t (n - 1) known closed entry exit start stops (walk_whole g t n entry (walk_from g (take n t) entry walk)) (omega (arith, length-take n t))
refused_after judges.Stack g t n known valid some le closed stops (entry, exit, a, z, start, run) =
    run_stops g t (n - 1) known closed valid entry exit start stops (run_whole g t n 0 entry [] (run_from g (take n t) entry run)) (omega (arith, length-take n t))
