-- One event.
use Rattle.std.proofs.Common.{◌≡◌, ◌↔◌, ℕ, List, [], ◌∷◌, ◌++◌, ℤ, Option, refl, sym, ◌∙◌, ap, subst}
use Rattle.dm_base.specs.declared.event.Event.{Event}
use Rattle.dm_base.specs.Trace.{erase}
use Rattle.flow_model.proofs.Histories.{erase-append}
use Rattle.flow_model.specs.Graph.{Graph, HasSilent, HasSys, HasCall, HasFunction}
use Rattle.dm_base.specs.Fits.{Fits}
use Rattle.flow_model.specs.Language.{Inside, Calls, Enters, Leaves, Steps, StackRun, IsConfig}
use Rattle.flow_model.specs.Language.StackRun.{over, inside, calls, enters, leaves}
use Rattle.flow_model.specs.Language.Steps.{silent as s_silent, sys as s_sys, enter as s_enter, leave as s_leave}
use Rattle.stack_automaton.specs.declared.place.Place.{Place}
use Rattle.stack_automaton.specs.declared.place.Place.TheVariants.{Held, Entered}
use Rattle.stack_automaton.specs.Held.{Path}
use Rattle.stack_automaton.specs.Held.Path.{ends, on}
use Rattle.stack_automaton.specs.Event.{IsFact, IsLink, Climbs, IsGiven, IsReached, IsNext, Stores, key_of}
use Rattle.stack_automaton.proofs.PathLemmas.{path_frame, path_first}
use Rattle.stack_automaton.specs.Event.IsFact.{first, silent, enter, back, out}
use Rattle.stack_automaton.specs.Event.Climbs.{held, link}

-- runs that read nothing, one after another
pub run_on : {g : Graph} {a b c : ℕ} {x y z : List ℕ} {t : List Event} → StackRun g a x t b y → StackRun g b y [] c z → StackRun g a x t c z
run_on over rest = rest
run_on (inside s run) rest = inside s (run_on run rest)
run_on (calls s is run) rest = calls s is (run_on run rest)
run_on (enters s run) rest = enters s (run_on run rest)
run_on (leaves s run) rest = leaves s (run_on run rest)

module _ (g : Graph) (E : ℕ → ℕ → ℕ → Type 0) (First : ℕ → ℕ → Type 0) (final : ℕ) where
  -- what a fact says of the configurations: those with a stack that is held from the key are reached, or the node is reached from the function's entry, with any stack below
  abbrev IsSound : ℕ → Place → Type 0
  IsSound v (Held q) = (z : List ℕ) → Path E final q z → IsReached g E First final v z
  IsSound v (Entered f) = (entry : ℕ) × (exit : ℕ) × HasFunction g f entry exit × ((y : List ℕ) → StackRun g entry y [] v y)

  reached_more : {a b : ℕ} {y z : List ℕ} → IsReached g E First final a y → StackRun g a y [] b z → IsReached g E First final b z
  reached_more (c, q, x, is, path, run) more = (c, q, x, is, path, run_on run more)

  sound_silent : {a b : ℕ} (p : Place) → IsSound a p → HasSilent g a b → IsSound b p
  sound_silent (Held q) sound has = λ z path. reached_more (sound z path) (inside (s_silent has) over)
  sound_silent (Entered f) (entry, exit, is, run) has = (entry, exit, is, λ y. run_on (run y) (inside (s_silent has) over))

  sound_out : {a s b f entry exit c d h : ℕ} (p : Place) → IsSound exit (Entered h) → IsSound c p → HasCall g c s d h → HasCall g a s b f → HasFunction g f entry exit → IsSound b p
  sound_out {s = s} (Held q) (begin, end, is, run) sound into from at = λ z path.
      reached_more (sound z path) (enters (s_enter into is) (run_on (run (s ∷ z)) (leaves (s_leave from at) over)))
  sound_out {s = s} (Entered i) (begin, end, is, run) (begin', end', is', run') into from at =
      (begin', end', is', λ y. run_on (run' y) (enters (s_enter into is) (run_on (run (s ∷ y)) (leaves (s_leave from at) over))))

  sound : {v : ℕ} {p : Place} → IsFact g E First v p → IsSound v p
  sound (first {b = b} {q = q} is) = λ z path. (b, q, z, is, path, over)
  sound (silent {p = p} fact has) = sound_silent p (sound fact) has
  sound (enter {entry = entry} {exit = exit} fact call at) = (entry, exit, at, λ y. over)
  sound (back {s = s} fact edge call at) = λ z path. reached_more (sound fact (s ∷ z) (on edge path)) (leaves (s_leave call at) over)
  sound (out {p = p} fact from into call at) = sound_out p (sound fact) (sound from) into call at

  -- each configuration that is held is reached
  pub held_sound : {v : ℕ} {p : Place} {z : List ℕ} → Climbs g E First final p z → IsFact g E First v p → IsReached g E First final v z
  held_sound (held {z = z} path) fact = sound fact z path
  held_sound {v = v} (link {f = f} {s = s} {z = z} (a, b, m, n, from, into, begins) rest) fact =
      let (entry, exit, is, run) = sound fact in
      reached_more (held_sound rest from) (enters (s_enter into is) (run (s ∷ z)))

  -- what is held goes on by one step that reads nothing
  held_inside : {a b : ℕ} {y z : List ℕ} → Steps g a y Inside b z → IsGiven g E First final a y → IsGiven g E First final b z
  held_inside (s_silent has) (p, fact, climbs) = (p, silent fact has, climbs)

  held_enters : {a b s : ℕ} {y z : List ℕ} → Steps g a y (Enters s) b z → IsGiven g E First final a y → IsGiven g E First final b z
  held_enters {a = a} (s_enter {b = b} {f = f} {entry = entry} {exit = exit} call at) (p, fact, climbs) = (Entered f, enter fact call at, link (a, b, entry, exit, fact, call, at) climbs)

  held_return : {a s b f entry exit : ℕ} {z : List ℕ} (p : Place) → HasCall g a s b f → HasFunction g f entry exit → IsFact g E First exit p → Climbs g E First final p (s ∷ z) → IsGiven g E First final b z
  held_return (Held q) call at fact (held (on {q = r} edge path)) = (Held r, back fact edge call at, held path)
  held_return (Entered h) call at fact (link {p = p} (c, d, m, n, from, into, begins) rest) = (p, out fact from into call at, rest)

  held_leaves : {a b s : ℕ} {y z : List ℕ} → Steps g a y (Leaves s) b z → IsGiven g E First final a y → IsGiven g E First final b z
  held_leaves (s_leave call at) (p, fact, climbs) = held_return p call at fact climbs

  -- so a run that reads nothing stays among what is held
  held_run : {a b : ℕ} {y z : List ℕ} {t : List Event} → StackRun g a y t b z → t ≡ [] → IsGiven g E First final a y → IsGiven g E First final b z
  held_run over none is = is
  held_run (inside s run) none is = held_run run none (held_inside s is)
  held_run (calls s was run) none is = absurd cc
  held_run (enters s run) none is = held_run run none (held_enters s is)
  held_run (leaves s run) none is = held_run run none (held_leaves s is)

  -- the facts hold just what is reached
  pub held_exact : (v : ℕ) (z : List ℕ) → IsGiven g E First final v z ↔ IsReached g E First final v z
  held_exact v z = (
    λ (p, fact, climbs). held_sound climbs fact,
    λ (b, q, y, is, path, run). held_run run refl (Held q, first is, held path),
  )

-- what a fact's place is: a key that is there, or a function
module _ (g : Graph) (E : ℕ → ℕ → ℕ → Type 0) (First : ℕ → ℕ → Type 0) (There : ℕ → Type 0) (closed : (k l q : ℕ) → There k → E k l q → There q) (begins : (b q : ℕ) → First b q → There q) where
  abbrev pub IsThereAt : Place → Type 0
  IsThereAt (Held q) = There q
  IsThereAt (Entered f) = (entry : ℕ) × (exit : ℕ) × HasFunction g f entry exit

  pub there : {v : ℕ} {p : Place} → IsFact g E First v p → IsThereAt p
  there (first {b = b} {q = q} is) = begins b q is
  there (silent fact has) = there fact
  there (enter {entry = entry} {exit = exit} fact call at) = (entry, exit, at)
  there (back {s = s} {q = q} {r = r} fact edge call at) = closed q s r (there fact) edge
  there (out fact from into call at) = there from

-- a function that is entered is entered by a call
module _ (g : Graph) (E : ℕ → ℕ → ℕ → Type 0) (First : ℕ → ℕ → Type 0) where
  abbrev pub IsLinked : Place → Type 0
  IsLinked (Held q) = Unit {0}
  IsLinked (Entered f) = (s : ℕ) × (p : Place) × IsLink g E First f s p

  pub linked : {v : ℕ} {p : Place} → IsFact g E First v p → IsLinked p
  linked (first is) = tt
  linked (silent fact has) = linked fact
  linked (enter {a = a} {s = s} {b = b} {entry = entry} {exit = exit} {p = p} fact call at) = (s, p, (a, b, entry, exit, fact, call, at))
  linked (back fact edge call at) = tt
  linked (out fact from into call at) = linked from

-- The facts as edges of a pool.
module _ (g : Graph) (E E' : ℕ → ℕ → ℕ → Type 0) (First : ℕ → ℕ → Type 0) (There : ℕ → Type 0) (new : ℕ → ℕ) (key final : ℕ)
    (stores : Stores g E E' First There new key) (closed : (k l q : ℕ) → There k → E k l q → There q) (begins : (b q : ℕ) → First b q → There q) where
  -- a path from a place's key, and what leads on from the place
  pub stored_path : {p : Place} {z : List ℕ} → IsThereAt g E First There closed begins p → Climbs g E First final p z → Path E' final (key_of new p) z
  stored_path is (held {q = q} {z = z} path) = (path_frame E E' final There stores.old closed q z is).1 path
  stored_path is (link {f = f} {s = s} {p = p} (a, b, m, n, from, into, at) rest) =
      on ((stores.entered f s p (a, b, m, n, from, into, at) s (key_of new p)).1 (p, (a, b, m, n, from, into, at), refl)) (stored_path (there g E First There closed begins from) rest)

  -- The final key is there and has no edges.
  module _ (last : There final) (none : (l q : ℕ) → E final l q → ⊥) where
    stored_climb : {k : ℕ} {z : List ℕ} → Path E' final k z → (p : Place) → k ≡ key_of new p → (v : ℕ) → IsFact g E First v p → Climbs g E First final p z
    stored_climb {z = z} path (Held q) is v fact = held ((path_frame E E' final There stores.old closed q z (there g E First There closed begins fact)).0 (subst (λ n. Path E' final n z) is path))
    stored_climb ends (Entered f) is v fact =
        let (s, p, into) = linked g E First fact in
        let edge = (stores.entered f s p into s (key_of new p)).1 (p, into, refl) in
        absurd (none s (key_of new p) ((stores.old final s (key_of new p) last).0 (subst (λ n. E' n s (key_of new p)) (sym is) edge)))
    stored_climb (on {l = l} {q = q} edge rest) (Entered f) is v fact =
        let (s, p, into) = linked g E First fact in
        let (r, (a, b, m, n, from, call, at), same) = (stores.entered f s p into l q).0 (subst (λ n. E' n l q) is edge) in
        link (a, b, m, n, from, call, at) (stored_climb rest r same a from)

    stored_top : {v : ℕ} {z : List ℕ} → Path E' final key (v ∷ z) → IsGiven g E First final v z
    stored_top {v = v} path =
        let (q, edge, rest) = path_first path in
        let (r, fact, same) = (stores.top v q).0 edge in
        (r, fact, stored_climb rest r same v fact)

    -- the new key holds just what is reached
    pub stored_exact : (v : ℕ) (z : List ℕ) → Path E' final key (v ∷ z) ↔ IsReached g E First final v z
    stored_exact v z = (
      λ path. (held_exact g E First final v z).0 (stored_top path),
      λ is. let (p, fact, climbs) = (held_exact g E First final v z).1 is in on ((stores.top v (key_of new p)).1 (p, fact, refl)) (stored_path (there g E First There closed begins fact) climbs),
    )

-- the key holds just the configurations after the history
abbrev pub HoldsConfigs : (ℕ → ℕ → ℕ → Type 0) → ℕ → Graph → List Event → ℕ → Type 0
HoldsConfigs E final g h key = (v : ℕ) (z : List ℕ) → Path E final key (v ∷ z) ↔ IsConfig g h v z

-- a run that reads one event more
pub run_call : {g : Graph} {a b c d x : ℕ} {p : List (Option ℤ)} {u v w z : List ℕ} {t : List Event} (e : Event) → StackRun g a u t b v → Steps g b v (Calls x p) c w → Fits x p e → StackRun g c w [] d z → StackRun g a u (t ++ e ∷ []) d z
run_call e over s is rest = calls s is rest
run_call e (inside r run) s is rest = inside r (run_call e run s is rest)
run_call e (calls r was run) s is rest = calls r was (run_call e run s is rest)
run_call e (enters r run) s is rest = enters r (run_call e run s is rest)
run_call e (leaves r run) s is rest = leaves r (run_call e run s is rest)

-- where a run reads its last event
pub record LastCall (g : Graph) (a : ℕ) (u : List ℕ) (t : List Event) (e : Event) (d : ℕ) (z : List ℕ) : Type 0 where
  pub before : ℕ
  pub behind : ℕ
  pub stack : List ℕ
  pub name : ℕ
  pub pattern : List (Option ℤ)
  pub begin : StackRun g a u t before stack
  pub call : HasSys g before name pattern behind
  pub fits : Fits name pattern e
  pub end : StackRun g behind stack [] d z

longer : {g : Graph} {a b d : ℕ} {u v z : List ℕ} {s t : List Event} {e : Event} → ((c : ℕ) (w : List ℕ) → StackRun g b v t c w → StackRun g a u s c w) → LastCall g b v t e d z → LastCall g a u s e d z
longer more last = record {
  before = last.before;
  behind = last.behind;
  stack = last.stack;
  name = last.name;
  pattern = last.pattern;
  begin = more last.before last.stack last.begin;
  call = last.call;
  fits = last.fits;
  end = last.end;
}

here : {g : Graph} {a b d x : ℕ} {p : List (Option ℤ)} {u v z : List ℕ} (e : Event) → Steps g a u (Calls x p) b v → Fits x p e → StackRun g b v [] d z → LastCall g a u [] e d z
here {u = u} e (s_sys {a = a} {x = x} {b = b} {p = p} has) fits rest = record { before = a; behind = b; stack = u; name = x; pattern = p; begin = over; call = has; fits = fits; end = rest }

pub last_call : {g : Graph} {a d : ℕ} {u z : List ℕ} {w : List Event} → StackRun g a u w d z → (t : List Event) (e : Event) → w ≡ t ++ e ∷ [] → LastCall g a u t e d z
last_call over [] e same = absurd cc
last_call over (y ∷ t) e same = absurd cc
last_call (inside s run) t e same = longer (λ c w r. inside s r) (last_call run t e same)
last_call (enters s run) t e same = longer (λ c w r. enters s r) (last_call run t e same)
last_call (leaves s run) t e same = longer (λ c w r. leaves s r) (last_call run t e same)
last_call {g} {a} {d} {u} {z} (calls {b = b} {x = x} {p = p} {z = v} {e = y} {t = more} s fits run) [] e same =
    let event : y ≡ e = cc in
    let empty : more ≡ [] = cc in
    here e s (subst (Fits x p) event fits) (subst (λ m. StackRun g b v m d z) empty run)
last_call {g} {a} {d} {u} {z} (calls {b = b} {x = x} {p = p} {z = v} {e = y} {t = more} s fits run) (f ∷ t) e same =
    let event : y ≡ f = cc in
    let tail : more ≡ t ++ e ∷ [] = cc in
    longer (λ c w r. calls s (subst (Fits x p) event fits) r) (last_call run t e tail)

-- the configurations after one call more
module _ (g : Graph) (E : ℕ → ℕ → ℕ → Type 0) (key final : ℕ) (h : List Event) (holds : HoldsConfigs E final g h key) (event : Event) (kept : erase (event ∷ []) ≡ event ∷ []) where
  split : erase (h ++ event ∷ []) ≡ erase h ++ event ∷ []
  split = erase-append h (event ∷ []) ∙ ap (λ w. erase h ++ w) kept

  next_reached : (v : ℕ) (z : List ℕ) → IsReached g E (IsNext g E key event) final v z → IsConfig g (h ++ event ∷ []) v z
  next_reached v z (b, q, y, next, path, run) =
      let (entry, exit, at, before) = (holds next.from y).0 (on next.edge path) in
      (entry, exit, at, subst (λ w. StackRun g entry [] w v z) (sym split) (run_call event before (s_sys next.has) next.fits run))

  reached_next : (v : ℕ) (z : List ℕ) → IsConfig g (h ++ event ∷ []) v z → IsReached g E (IsNext g E key event) final v z
  reached_next v z (entry, exit, at, run) =
      let last = last_call run (erase h) event split in
      let (q, edge, path) = path_first ((holds last.before last.stack).1 (entry, exit, at, last.begin)) in
      (last.behind, q, last.stack, record { from = last.before; name = last.name; pattern = last.pattern; edge = edge; has = last.call; fits = last.fits }, path, last.end)

  pub next_exact : (v : ℕ) (z : List ℕ) → IsReached g E (IsNext g E key event) final v z ↔ IsConfig g (h ++ event ∷ []) v z
  next_exact v z = (next_reached v z, reached_next v z)
