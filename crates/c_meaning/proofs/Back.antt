-- Each run of the graph that is laid from shapes reads a word of a shape.
use Rattle.std.proofs.Common.{◌≡◌, ℕ, Bool, ◌+◌, ◌<◌, List, [], ◌∷◌, ◌++◌, length, Contains, subst}
use Rattle.dm_base.specs.declared.event.Event.{Event}
use Rattle.c_meaning.specs.Shape.{Shape, Call, Seq, Alt, Loop, Do, Cases, Parts, End, Part, Shapes, shape_of, Leave, goes_on, breaks, continues, returns, IsDone, IsNext, IsAway}
use Rattle.c_meaning.specs.Bodies.{IsExpression}
use Rattle.c_meaning.specs.Words.{Marks, Whole, Rounds, Again, Falls, Picks, Front}
use Rattle.c_meaning.specs.Words as F
use Rattle.c_meaning.specs.Walks.{Label, Site}
use Rattle.c_meaning.proofs.Leaving.{straight}
use Rattle.c_meaning.specs.GraphLayout.{Places, ends, body, width, count, group, switch}
use Rattle.c_meaning.proofs.Laid.{Graph, Step, Run, Via, along, leave, over, then, silent, system, enter, LaidFrom, Only, First, OrSilent, out, into, TwoSilent, to_a, to_b, leads, Laid, LaidParts, no_part, one_part, Heads}
use Rattle.c_meaning.proofs.Laid as G
use Rattle.c_meaning.proofs.Positions.{Inside, Goes, at_end, entered, within, returned, in_left, in_right, at_head, in_test, at_body, in_body, at_step, in_step, at_do, in_do, at_until, in_until, at_choice, still, gone, in_cases, in_seq, in_rest, InFalls, InPicks, at_part, in_part, in_next, from_this, from_later}

module _ (env : Shapes) (g : Graph) (m : Marks) (base : ℕ → ℕ) (from : LaidFrom env g base) (closed : (f : ℕ) → f < length env.functions → (x : Leave) (t u : List Event) → Whole env m (shape_of env f) x t u → IsDone x) where
  abbrev In : Shape → ℕ → Places → List ℕ → List Event → List Event → ℕ → List ℕ → Type 0
  In = Inside env g base m

  abbrev To : Shape → ℕ → Places → List ℕ → List Event → List Event → ℕ → List ℕ → Type 0
  To S n p = Goes (Inside env g base m S n p) (Whole env m S) p

  abbrev ToFalls : Parts → ℕ → ℕ → Places → List ℕ → List Event → List Event → ℕ → List ℕ → Type 0
  ToFalls ps i n p = Goes (InFalls env g base m ps i n p) (Falls env m ps) p

  abbrev ToPicks : Parts → ℕ → ℕ → Places → List ℕ → List Event → List Event → ℕ → List ℕ → Type 0
  ToPicks ps i n p = Goes (InPicks env g base m ps i n p) (Picks env m ps) p

  abbrev W : Shape → Leave → List Event → List Event → Type 0
  W = Whole env m

  -- an expression is left at its end alone
  away : {S : Shape} {x : Leave} {t u : List Event} → IsExpression S → W S x t u → IsAway x → ⊥
  away s h off = subst IsAway (straight env m h s) off

  -- the way of each part is a way of the whole
  called : {s f n y : ℕ} {p : Places} {z w : List ℕ} {t u v : List Event} → Contains (env.candidates s) f → t ≡ m.pre s ++ u → To (shape_of env f) (base f) (ends (g.exit f)) (s ∷ z) u v y w → To (Call s) n p z t v y w
  called k e (still i) = still (within k e i)
  called {s = s} {f = f} {u = u} {v = v} k e (gone breaks h) = absurd (closed f (from.known s f k) breaks u v h)
  called {s = s} {f = f} {u = u} {v = v} k e (gone continues h) = absurd (closed f (from.known s f k) continues u v h)
  called k e (gone x h) = still (returned k e h tt)

  to_left : {S T : Shape} {n y : ℕ} {p : Places} {z w : List ℕ} {t u : List Event} → To S n p z t u y w → To (Alt S T) n p z t u y w
  to_left (still i) = still (in_left i)
  to_left (gone e h) = gone e (F.left h)

  to_right : {S T : Shape} {n y : ℕ} {p : Places} {z w : List ℕ} {t u : List Event} → To T (n + width S) p z t u y w → To (Alt S T) n p z t u y w
  to_right (still i) = still (in_right i)
  to_right (gone e h) = gone e (F.right h)

  to_test : {C B P : Shape} {n y : ℕ} {p : Places} {z w : List ℕ} {t u v : List Event} → IsExpression C → Rounds env m C B P t u → To C (n + 3) (record p { to = n + 1 }) z u v y w → To (Loop C B P) n p z t v y w
  to_test s k (still i) = still (in_test k i)
  to_test s k (gone goes_on h) = still (at_body k h)
  to_test s k (gone e h) = absurd (away s h tt)

  to_body : {C B P : Shape} {n y : ℕ} {p : Places} {z w : List ℕ} {t u v a : List Event} → Rounds env m C B P t u → W C goes_on u v → To B (n + 3 + width C) (body p (n + 2) (p.to) (n + 2)) z v a y w → To (Loop C B P) n p z t a y w
  to_body k c (still i) = still (in_body k c i)
  to_body k c (gone breaks h) = gone goes_on (F.loop_break k c h)
  to_body k c (gone returns h) = gone returns (F.loop_return k c h)
  to_body k c (gone e h) = still (at_step k c tt h)

  to_step : {C B P : Shape} {e : Leave} {n y : ℕ} {p : Places} {z w : List ℕ} {t u v a b : List Event} → IsExpression P → Rounds env m C B P t u → W C goes_on u v → IsNext e → W B e v a → To P (n + 3 + width C + width B) (record p { to = n }) z a b y w → To (Loop C B P) n p z t b y w
  to_step s k c ok h (still i) = still (in_step k c ok h i)
  to_step s k c ok h (gone goes_on q) = still (at_head (F.round k c ok h q))
  to_step s k c ok h (gone e q) = absurd (away s q tt)

  to_do : {B C : Shape} {n y : ℕ} {p : Places} {z w : List ℕ} {t u v : List Event} → Again env m B C t u → To B (n + 3) (body p (n + 1) (p.to) (n + 1)) z u v y w → To (Do B C) n p z t v y w
  to_do k (still i) = still (in_do k i)
  to_do k (gone breaks h) = gone goes_on (F.do_break k h)
  to_do k (gone returns h) = gone returns (F.do_return k h)
  to_do k (gone e h) = still (at_until k tt h)

  to_until : {B C : Shape} {e : Leave} {n y : ℕ} {p : Places} {z w : List ℕ} {t u v a : List Event} → IsExpression C → Again env m B C t u → IsNext e → W B e u v → To C (n + 3 + width B) (record p { to = n + 2 }) z v a y w → To (Do B C) n p z t a y w
  to_until s k ok h (still i) = still (in_until k ok h i)
  to_until s k ok h (gone goes_on q) = still (at_choice k ok h q)
  to_until s k ok h (gone e q) = absurd (away s q tt)

  -- the parts of a switch
  to_part : {S : Shape} {ps : Parts} {i n y : ℕ} {p : Places} {z w : List ℕ} {t u : List Event} → To S n (group p ps (i + 1)) z t u y w → ToFalls (Part S ps) i n p z t u y w
  to_part (still h) = still (in_part h)
  to_part {ps = End} (gone goes_on h) = gone goes_on (F.falls_on h F.ended)
  to_part {ps = Part T ps} (gone goes_on h) = still (in_next h at_part)
  to_part (gone e h) = gone e (F.falls_away tt h)

  to_next : {S : Shape} {ps : Parts} {i n y : ℕ} {p : Places} {z w : List ℕ} {t u v : List Event} → W S goes_on t u → ToFalls ps (i + 1) (n + width S) p z u v y w → ToFalls (Part S ps) i n p z t v y w
  to_next h (still i) = still (in_next h i)
  to_next h (gone e k) = gone e (F.falls_on h k)

  to_this : {S : Shape} {ps : Parts} {i n y : ℕ} {p : Places} {z w : List ℕ} {t u : List Event} → ToFalls (Part S ps) i n p z t u y w → ToPicks (Part S ps) i n p z t u y w
  to_this (still i) = still (from_this i)
  to_this (gone e k) = gone e (F.this k)

  to_later : {S : Shape} {ps : Parts} {i n y : ℕ} {p : Places} {z w : List ℕ} {t u : List Event} → ToPicks ps (i + 1) (n + width S) p z t u y w → ToPicks (Part S ps) i n p z t u y w
  to_later (still i) = still (from_later i)
  to_later (gone e k) = gone e (F.later k)

  to_cases : {ps : Parts} {d : Bool} {n y : ℕ} {p : Places} {z w : List ℕ} {t u : List Event} → ToPicks ps n (n + count ps) (switch p) z t u y w → To (Cases ps d) n p z t u y w
  to_cases (still i) = still (in_cases i)
  to_cases (gone goes_on k) = gone goes_on (F.cases_end k)
  to_cases (gone breaks k) = gone goes_on (F.cases_break k)
  to_cases (gone continues k) = gone continues (F.cases_continue k)
  to_cases (gone returns k) = gone returns (F.cases_return k)

  to_row : {S : Shape} {ps : Parts} {n y : ℕ} {p : Places} {z w : List ℕ} {t u : List Event} → To S (n + count ps) (group p ps n) z t u y w → To (Seq S ps) n p z t u y w
  to_row (still i) = still (in_seq i)
  to_row {ps = End} (gone goes_on h) = gone goes_on (F.in_order (F.falls_on h F.ended))
  to_row {ps = Part T ps} (gone goes_on h) = still (in_rest h at_part)
  to_row (gone e h) = gone e (F.in_order (F.falls_away tt h))

  to_rest : {S : Shape} {ps : Parts} {n y : ℕ} {p : Places} {z w : List ℕ} {t u v : List Event} → W S goes_on t u → ToFalls ps n (n + count ps + width S) p z u v y w → To (Seq S ps) n p z t v y w
  to_rest h (still i) = still (in_rest h i)
  to_rest h (gone e k) = gone e (F.in_order (F.falls_on h k))

  chosen : {ps : Parts} {i n b : ℕ} {p : Places} {z : List ℕ} {t : List Event} → Heads ps i b → InPicks env g base m ps i n p z t t b z
  chosen G.this = from_this at_part
  chosen (G.later h) = from_later (chosen h)

  -- the first step
  start : {S : Shape} {n b y : ℕ} {p : Places} {l : Label} {z w : List ℕ} {t u : List Event} → First S n p l b → Via env g m l b z t y w u → To S n p z t u y w
  start G.skip silent = gone goes_on F.skip
  start G.sys (system fit) = gone goes_on (F.sys fit)
  start G.exit (system fit) = still (at_end fit)
  start G.call (enter k e) = still (entered k e)
  start (G.left f) v = to_left (start f v)
  start (G.right f) v = to_right (start f v)
  start G.loop silent = still (at_head F.none)
  start G.until silent = still (at_do F.first)
  start (G.row f) v = to_row (start f v)
  start (G.case h) silent = still (in_cases (chosen h))
  start G.no_case silent = gone goes_on F.cases_none
  start G.break_out silent = gone breaks F.break_out
  start G.continue_on silent = gone continues F.continue_on
  start G.return_now silent = gone returns F.return_now

  -- a step from a node whose edges are known
  abbrev By : (Label → ℕ → Type 0) → List ℕ → List Event → ℕ → List ℕ → List Event → Type 0
  By q z t y w u = (l : Label) × (b : ℕ) × q l b × Via env g m l b z t y w u

  only : {a y : ℕ} {q : Label → ℕ → Type 0} {z w : List ℕ} {t u : List Event} → Only env g a q → Step env g m a z t y w u → By q z t y w u
  only o (along {b = b} {l = l} e v) = (l, b, o.edges l b e, v)
  only o (leave {f = f} lt at e k h) = absurd (o.inner f lt at)

  after_test : {C B P : Shape} {n b y : ℕ} {p : Places} {l : Label} {z w : List ℕ} {t u v a : List Event} → Rounds env m C B P t u → W C goes_on u v → OrSilent (p.to) (First B (n + 3 + width C) (body p (n + 2) (p.to) (n + 2))) l b → Via env g m l b z v y w a → To (Loop C B P) n p z t a y w
  after_test k c out silent = gone goes_on (F.loop_end k c)
  after_test k c (into f) v = to_body k c (start f v)

  after_until : {B C : Shape} {e : Leave} {n b y : ℕ} {p : Places} {l : Label} {z w : List ℕ} {t u v a c : List Event} → Again env m B C t u → IsNext e → W B e u v → W C goes_on v a → TwoSilent n (p.to) l b → Via env g m l b z a y w c → To (Do B C) n p z t c y w
  after_until k ok h q to_a silent = still (at_do (F.again k ok h q))
  after_until k ok h q to_b silent = gone goes_on (F.do_end k ok h q)

  -- the end of the callee
  back : {s f n x y : ℕ} {e : Leave} {p : Places} {z w : List ℕ} {t u v a : List Event} → g.edge x (Site s) (p.to) → Contains (env.candidates s) f → t ≡ m.pre s ++ u → W (shape_of env f) e u v → IsDone e → Step env g m (g.exit f) (s ∷ z) v y w a → To (Call s) n p z t a y w
  back {s = s} {f = f} h k e r d (along {b = b} {l = l} edge v) = absurd (from.stops f (from.known s f k) l b edge)
  back {s = s} {f = f} {n = n} {x = x} {p = p} {z = z} {t = t} {a = a} h k e r d (leave {b = b} {c = c} lt at edge among after) =
      subst (λ b. To (Call s) n p z t a b z) (from.one_site s x (p.to) c b h edge) (gone goes_on (F.call k e r d after))

  mutual
    step : {S : Shape} {n x y : ℕ} {p : Places} {z r w : List ℕ} {t u v : List Event} → In S n p z t u x r → {a : ℕ} → Laid env g S a n p → Step env g m x r u y w v → To S n p z t v y w
    step (at_end fit) (G.exit e o) s = absurd ((only o s).2)
    step (entered {s = c} {f = f} k e) (G.call h) s = let r = only (from.begins f (from.known c f k)) s in called k e (start r.2 r.3)
    step (within {s = c} {f = f} k e i) (G.call h) s = called k e (step i (from.laid f (from.known c f k)) s)
    step (returned k e r d) (G.call h) s = back h k e r d s
    step (in_left i) (G.either hs ht) s = to_left (step i hs s)
    step (in_right i) (G.either hs ht) s = to_right (step i ht s)
    step (at_head k) (G.loop s1 s2 a e hc hb hp o1 o2 o3) s = let r = only o1 s in to_test s1 k (start r.2 r.3)
    step (in_test k i) (G.loop s1 s2 a e hc hb hp o1 o2 o3) s = to_test s1 k (step i hc s)
    step (at_body k c) (G.loop s1 s2 a e hc hb hp o1 o2 o3) s = let r = only o2 s in after_test k c r.2 r.3
    step (in_body k c i) (G.loop s1 s2 a e hc hb hp o1 o2 o3) s = to_body k c (step i hb s)
    step (at_step k c ok b) (G.loop s1 s2 a e hc hb hp o1 o2 o3) s = let r = only o3 s in to_step s2 k c ok b (start r.2 r.3)
    step (in_step k c ok b i) (G.loop s1 s2 a e hc hb hp o1 o2 o3) s = to_step s2 k c ok b (step i hp s)
    step (at_do k) (G.until s1 a d e hb hc o1 o2 o3) s = let r = only o1 s in to_do k (start r.2 r.3)
    step (in_do k i) (G.until s1 a d e hb hc o1 o2 o3) s = to_do k (step i hb s)
    step (at_until k ok b) (G.until s1 a d e hb hc o1 o2 o3) s = let r = only o2 s in to_until s1 k ok b (start r.2 r.3)
    step (in_until k ok b i) (G.until s1 a d e hb hc o1 o2 o3) s = to_until s1 k ok b (step i hc s)
    step (at_choice k ok b c) (G.until s1 a d e hb hc o1 o2 o3) s = let r = only o3 s in after_until k ok b c r.2 r.3
    step (in_seq i) (G.row hs h) s = to_row (step i hs s)
    step (in_rest q i) (G.row hs h) s = to_rest q (step_falls i h s)
    step (in_cases i) (G.cases h c e) s = to_cases (step_picks i h s)

    step_falls : {ps : Parts} {i n x y : ℕ} {p : Places} {z r w : List ℕ} {t u v : List Event} → InFalls env g base m ps i n p z t u x r → LaidParts env g ps i n p → Step env g m x r u y w v → ToFalls ps i n p z t v y w
    step_falls at_part (one_part hs o h) s = let r = only o s in to_part (start r.2 r.3)
    step_falls (in_part k) (one_part hs o h) s = to_part (step k hs s)
    step_falls (in_next q k) (one_part hs o h) s = to_next q (step_falls k h s)

    step_picks : {ps : Parts} {i n x y : ℕ} {p : Places} {z r w : List ℕ} {t u v : List Event} → InPicks env g base m ps i n p z t u x r → LaidParts env g ps i n p → Step env g m x r u y w v → ToPicks ps i n p z t v y w
    step_picks (from_this k) (one_part hs o h) s = to_this (step_falls k (one_part hs o h) s)
    step_picks (from_this k) no_part s = elim k [ ]
    step_picks (from_later k) (one_part hs o h) s = to_later (step_picks k h s)

  -- what has been read up to a position is a front
  mutual
    front : {S : Shape} {n x : ℕ} {p : Places} {z y : List ℕ} {t u : List Event} → In S n p z t u x y → Front env m S t u
    front (at_end fit) = F.exits fit
    front (entered k e) = F.inside k e F.nothing
    front (within k e i) = F.inside k e (front i)
    front (returned k e r d) = F.inside k e (F.all r)
    front (in_left i) = F.in_left (front i)
    front (in_right i) = F.in_right (front i)
    front (at_head k) = F.in_test k F.nothing
    front (in_test k i) = F.in_test k (front i)
    front (at_body k c) = F.in_body k c F.nothing
    front (in_body k c i) = F.in_body k c (front i)
    front (at_step k c ok b) = F.in_step k c ok b F.nothing
    front (in_step k c ok b i) = F.in_step k c ok b (front i)
    front (at_do k) = F.in_do k F.nothing
    front (in_do k i) = F.in_do k (front i)
    front (at_until k ok b) = F.in_until k ok b F.nothing
    front (in_until k ok b i) = F.in_until k ok b (front i)
    front (at_choice k ok b c) = F.in_until k ok b (F.all c)
    front (in_seq i) = F.in_seq (F.in_part (front i))
    front (in_rest q i) = F.in_seq (F.in_next q (front_falls i))
    front (in_cases i) = F.in_cases (front_picks i)

    front_falls : {ps : Parts} {i n x : ℕ} {p : Places} {z y : List ℕ} {t u : List Event} → InFalls env g base m ps i n p z t u x y → F.FrontFalls env m ps t u
    front_falls at_part = F.in_part F.nothing
    front_falls (in_part k) = F.in_part (front k)
    front_falls (in_next q k) = F.in_next q (front_falls k)

    front_picks : {ps : Parts} {i n x : ℕ} {p : Places} {z y : List ℕ} {t u : List Event} → InPicks env g base m ps i n p z t u x y → F.FrontPicks env m ps t u
    front_picks (from_this k) = F.from_this (front_falls k)
    front_picks (from_later k) = F.from_later (front_picks k)

  follow : {f a c : ℕ} {z w : List ℕ} {s t u : List Event} → f < length env.functions → Run env g m a z t c w u → To (shape_of env f) (base f) (ends (g.exit f)) [] s t a z → Front env m (shape_of env f) s u
  follow lt over (still i) = front i
  follow lt over (gone e h) = F.all h
  follow {f = f} lt (then q r) (still i) = follow lt r (step i (from.laid f lt) q)
  follow {f = f} {s = s} {t = t} lt (then q r) (gone e h) = absurd (over_there e (closed f lt e s t h) q)
    where
      over_there : {y : ℕ} {w : List ℕ} {v : List Event} (e : Leave) → IsDone e → Step env g m (leads (ends (g.exit f)) e) [] t y w v → ⊥
      over_there breaks d s = d
      over_there continues d s = d
      over_there e d (along {b = b} {l = l} edge v) = from.stops f lt l b edge

  pub reads_front : {f c : ℕ} {w : List ℕ} {t u : List Event} → f < length env.functions → Run env g m (g.entry f) [] t c w u → Front env m (shape_of env f) t u
  reads_front lt over = F.nothing
  reads_front {f = f} lt (then q r) = let s = only (from.begins f lt) q in follow lt r (start s.2 s.3)
