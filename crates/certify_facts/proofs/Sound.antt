-- What each fact says of walks and runs, and that it is so where the fact follows.
use Rattle.std.proofs.Common.{◌≡◌, ℕ, ◌+◌, ◌≤◌, List, [], ◌∷◌, take, refl, sym, subst, arith}
use Rattle.dm_base.specs.declared.event.Event.{Event}
use Rattle.flow_model.specs.Graph.{Graph, HasCall, HasFunction}
use Rattle.flow_model.specs.Language.Quiet.{silent as q_silent, enter as q_enter, leave as q_leave}
use Rattle.flow_model.specs.Verdict.{IsKept}
use Rattle.certify_facts.specs.declared.fact.Fact.{Fact}
use Rattle.certify_facts.specs.declared.fact.Fact.TheVariants.{Callgraph, At, Link}
use Rattle.certify_facts.specs.declared.fact.Judge.{Judge}
use Rattle.certify_facts.specs.declared.fact.Judge.TheVariants as judges
use Rattle.certify_facts.specs.Confirms.{which_of, IsAfter}
use Rattle.certify_facts.specs.Form.{IsOfModel}
use Rattle.certify_facts.specs.Reasons.{IsCall, IsStart, IsSilent, IsEntered, IsReturned, IsReturnedAlong, IsRead, IsLinked, FollowsFrom, Follows}
use Rattle.certify_facts.specs.Reasons.FollowsFrom.{silent, entered, returned, read, linked}
use Rattle.certify_facts.specs.Reasons.Follows.{begins, one, both}
use Rattle.certify_facts.proofs.Walking.{WalkTo, reads_before as walk_reads}
use Rattle.certify_facts.proofs.Walking.WalkTo.{here as w_here, quietly, reading as w_reading}
use Rattle.certify_facts.proofs.Running.{RunTo, run_on, reads_before as run_reads}
use Rattle.certify_facts.proofs.Running.RunTo.{here, silently, entering, leaving, reading}

-- An activation of f begins after i events on some stack, and from its entry, whatever the stack is, a run leads to the
-- node v after k events.
pub record IsActive (g : Graph) (t : List Event) (k i f v : ℕ) : Type 0 where
  pub start : ℕ
  pub last : ℕ
  pub run : HasFunction g g.start start last
  pub entry : ℕ
  pub exit : ℕ
  pub function : HasFunction g f entry exit
  pub stack : List ℕ
  pub begun : RunTo g t 0 start [] i entry stack
  pub inner : (z : List ℕ) → RunTo g t i entry z k v z

abbrev pub Holds : Graph → List Event → Fact → Type 0
Holds g t (Callgraph k v) = (entry : ℕ) × (exit : ℕ) × HasFunction g g.start entry exit × WalkTo g t entry k v
Holds g t (At k i f v) = IsActive g t k i f v
Holds g t (Link i f j h s) = (u : ℕ) × IsActive g t i j h u × IsCall g u s f

along3 : (P : ℕ → ℕ → ℕ → Type 0) (a a' b b' c c' : ℕ) → a' ≡ a → b' ≡ b → c' ≡ c → P a b c → P a' b' c'
along3 P a a' b b' c c' p q r has = subst (λ x. P x b' c') (sym p) (subst (λ y. P a y c') (sym q) (subst (λ z. P a b z) (sym r) has))

module _ (g : Graph) (t : List Event) where
  -- the activation goes on
  goes_on : {k k' i f u v : ℕ} (at : IsActive g t k i f u) → ((z : List ℕ) → RunTo g t i at.entry z k u z → RunTo g t i at.entry z k' v z) → IsActive g t k' i f v
  goes_on at more = record {
    start = at.start;
    last = at.last;
    run = at.run;
    entry = at.entry;
    exit = at.exit;
    function = at.function;
    stack = at.stack;
    begun = at.begun;
    inner = λ z. more z (at.inner z);
  }

  -- the configuration in which an activation is at the node
  pub reached : {k i f v : ℕ} (at : IsActive g t k i f v) → RunTo g t 0 at.start [] k v at.stack
  reached at = run_on at.begun (at.inner at.stack)

  start_sound : (y : Fact) → IsStart g y → Holds g t y
  start_sound (Callgraph k v) (none, (exit, at)) = (v, exit, at, subst (λ n. WalkTo g t v n v) (sym none) w_here)
  start_sound (At k i f v) (none, early, first, (exit, at)) = along3 (λ k i f. IsActive g t k i f v) 0 k 0 i g.start f none early first (record {
    start = v;
    last = exit;
    run = subst (λ h. HasFunction g h v exit) first at;
    entry = v;
    exit = exit;
    function = subst (λ h. HasFunction g h v exit) first at;
    stack = [];
    begun = here;
    inner = λ z. here;
  })
  start_sound (Link i f j h s) is = absurd is

  silent_sound : (x y : Fact) → Holds g t x → IsSilent g x y → Holds g t y
  silent_sound (Callgraph k u) (Callgraph k' v) (entry, exit, start, walk) (same, has) = (entry, exit, start, subst (λ n. WalkTo g t entry n v) (sym same) (quietly walk (q_silent has)))
  silent_sound (At k i f u) (At k' i' f' v) at (p, q, r, has) = along3 (λ k i f. IsActive g t k i f v) k k' i i' f f' p q r (goes_on at (λ z run. silently run has))
  silent_sound x y holds is = absurd is

  read_sound : (x y : Fact) → Holds g t x → IsRead g t x y → Holds g t y
  read_sound (Callgraph k u) (Callgraph k' v) (entry, exit, start, walk) (next, leads) = (entry, exit, start, subst (λ n. WalkTo g t entry n v) (sym next) (w_reading walk leads))
  read_sound (At k i f u) (At k' i' f' v) at (p, q, r, leads) = along3 (λ k i f. IsActive g t k i f v) (k + 1) k' i i' f f' p q r (goes_on at (λ z run. reading run leads))
  read_sound x y holds is = absurd is

  entered_sound : (s : ℕ) (x y : Fact) → Holds g t x → IsEntered g s x y → Holds g t y
  entered_sound s (Callgraph k u) (Callgraph k' v) (entry, exit, start, walk) (same, f, (b, call), (end, at)) = (entry, exit, start, subst (λ n. WalkTo g t entry n v) (sym same) (quietly walk (q_enter call at)))
  entered_sound s (At k i h u) (At k' i' f v) at (p, q, (b, call), (end, function)) = along3 (λ k i f. IsActive g t k i f v) k k' k i' f f p q refl (record {
    start = at.start;
    last = at.last;
    run = at.run;
    entry = v;
    exit = end;
    function = function;
    stack = s ∷ at.stack;
    begun = entering (reached at) call function;
    inner = λ z. here;
  })
  entered_sound s x y holds is = absurd is

  returned_sound : (s : ℕ) (x y : Fact) → Holds g t x → IsReturned g s x y → Holds g t y
  returned_sound s (Callgraph k u) (Callgraph k' v) (entry, exit, start, walk) (same, f, (begin, at), (a, call)) = (entry, exit, start, subst (λ n. WalkTo g t entry n v) (sym same) (quietly walk (q_leave call at)))
  returned_sound s x y holds is = absurd is

  linked_sound : (x y : Fact) → Holds g t x → IsLinked g x y → Holds g t y
  linked_sound (At k j h u) (Link i f j' h' s) at (p, q, r, call) = (u, along3 (λ i j h. IsActive g t i j h u) k i j j' h h' p q r at, call)
  linked_sound x y holds is = absurd is

  along_sound : (x z y : Fact) → Holds g t x → Holds g t z → IsReturnedAlong g x z y → Holds g t y
  along_sound (At k i f u) (Link i' f' j h s) (At k' j' h' v) at (w, outer, (b, into)) (p, q, r, q', r', (begin, exit), (a, from)) =
      let under : IsActive g t i j h w = subst (λ n. IsActive g t n j h w) q outer in
      let call : HasCall g w s b f = subst (HasCall g w s b) r into in
      along3 (λ k j h. IsActive g t k j h v) k k' j j' h h' p q' r' (goes_on under (λ z run. leaving (run_on (entering run call at.function) (at.inner (s ∷ z))) from exit))
  along_sound x z y holds more is = absurd is

  from_sound : (x y : Fact) → Holds g t x → FollowsFrom g t x y → Holds g t y
  from_sound x y holds (silent is) = silent_sound x y holds is
  from_sound x y holds (entered s is) = entered_sound s x y holds is
  from_sound x y holds (returned s is) = returned_sound s x y holds is
  from_sound x y holds (read is) = read_sound x y holds is
  from_sound x y holds (linked is) = linked_sound x y holds is

  -- each fact that follows is so
  pub sound : {judge : Judge} {y : Fact} → Follows judge g t y → Holds g t y
  sound (begins {y = y} model is) = start_sound y is
  sound (one {x = x} {y = y} follows is) = from_sound x y (sound follows) is
  sound (both {x = x} {z = z} {y = y} follows more is) = along_sound x z y (sound follows) (sound more) is

  -- so the trace is kept through as many events as the fact says
  pub kept_before : (judge : Judge) (bound : ℕ) (y : Fact) (k : ℕ) → IsOfModel judge y → Holds g t y → IsAfter k y → (j : ℕ) → j ≤ k → IsKept (which_of judge) g bound (take j t)
  kept_before judges.Callgraph bound (Callgraph k' v) k model (entry, exit, start, walk) after j le = walk_reads start walk j (omega (arith, after, le))
  kept_before judges.Stack bound (At k' i f v) k model at after j le = run_reads at.run (reached at) j (omega (arith, after, le))
  kept_before judges.Stack bound (Link i f j' h s) k model at after j le = absurd after
  kept_before judges.Stack bound (Callgraph k' v) k model at after j le = absurd model
  kept_before judges.Callgraph bound (At k' i f v) k model at after j le = absurd model
  kept_before judges.Callgraph bound (Link i f j' h s) k model at after j le = absurd model
