-- A walk over nodes is a walk over points.
use Rattle.std.proofs.Common.{◌≡◌, ℕ, ℤ, Bool, false, ◌+◌, ◌<◌, List, [], ◌∷◌, Option, length, Contains, sym, subst, refl}
use Rattle.std.proofs.lemmas.Bool.{false≢true}
use Rattle.dm_base.specs.declared.event.Event.{Event}
use Rattle.dm_base.specs.Fits.{Fits}
use Rattle.c_meaning.specs.Shape.{Shape, Skip, Seq, Alt, Loop, Do, Cases, Parts, End, Part, Shapes, shape_of, Leave, goes_on, breaks, continues, returns}
use Rattle.c_meaning.specs.Walks.{Point, PartPoint, before, after, left, right, test, inner, step, do_inner, do_test, parts, case, this, later, Target, at, by_break, by_continue, by_return, past, stopped, Map, apply, plain, of_body, of_do, of_seq, of_cases, Starts, starts_this, starts_later, Label, Silent, System, Site, Hop, PartHop, skip, sys, exit, call, to_left, to_right, left_out, right_out, in_left, in_right, loop_in, loop_on, loop_out, loop_next, loop_again, in_test, in_inner, in_step, do_in, do_on, do_again, do_out, in_do, in_until, seq_in, in_seq, case_in, no_case, in_case, break_out, continue_on, return_now, in_this, in_later, case_on, case_out, Walks}
use Rattle.c_meaning.specs.Walks as W
use Rattle.c_meaning.specs.GraphLayout.{edge, Places, ends, body, width, count, head, group, switch}
use Rattle.c_meaning.specs.Premises.{AreClosed}
use Rattle.c_meaning.proofs.Laid.{Graph, Laid, LaidParts, one_part, LaidFrom, First, Heads, Only, OrSilent, out, into, TwoSilent, to_a, to_b, leads, NodeWalk}
use Rattle.c_meaning.proofs.Laid as G
use Rattle.c_meaning.proofs.Edges.{Lays, LaysParts}
use Rattle.c_meaning.proofs.Edges as L
use Rattle.c_meaning.proofs.Functions.{g as graph, entry_at, laid_from, one_from}
use Rattle.c_meaning.proofs.Stray.{Allowed, allowed}

-- silent steps, one step with the label l, and silent steps
data Path {P : Type 0} (H : P → Label → Target P → Type 0) : P → Label → Target P → Type 0 where
  one : {x : P} {l : Label} {t : Target P} → H x l t → Path H x l t
  slow : {x y : P} {l : Label} {t : Target P} → H x Silent (at y) → Path H y l t → Path H x l t
  more : {x y : P} {l : Label} {t : Target P} → Path H x l (at y) → H y Silent t → Path H x l t

map_path : {P Q : Type 0} (m : Map P Q) {H : P → Label → Target P → Type 0} {K : Q → Label → Target Q → Type 0} → ((x : P) (l : Label) (t : Target P) → H x l t → K (m.point x) l (apply m t)) → {x : P} {l : Label} {t : Target P} → Path H x l t → Path K (m.point x) l (apply m t)
map_path m f (one {x = x} {l = l} {t = t} h) = one (f x l t h)
map_path m f (slow {x = x} {y = y} h q) = slow (f x Silent (at y) h) (map_path m f q)
map_path m f (more {y = y} {t = t} q h) = more (map_path m f q) (f y Silent t h)

-- the point that stands for a fresh node
mutual
  pub data Rep : (S : Shape) → ℕ → Places → ℕ → Point S → Type 0 where
    r_left : {S T : Shape} {n v : ℕ} {p : Places} {x : Point S} → Rep S n p v x → Rep (Alt S T) n p v (left x)
    r_right : {S T : Shape} {n v : ℕ} {p : Places} {x : Point T} → Rep T (n + width S) p v x → Rep (Alt S T) n p v (right x)
    loop_head : {C B P : Shape} {n : ℕ} {p : Places} → Rep (Loop C B P) n p n (test before)
    loop_test : {C B P : Shape} {n : ℕ} {p : Places} → Rep (Loop C B P) n p (n + 1) (test after)
    loop_step : {C B P : Shape} {n : ℕ} {p : Places} → Rep (Loop C B P) n p (n + 2) (step before)
    r_test : {C B P : Shape} {n v : ℕ} {p : Places} {x : Point C} → Rep C (n + 3) (record p { to = n + 1 }) v x → Rep (Loop C B P) n p v (test x)
    r_inner : {C B P : Shape} {n v : ℕ} {p : Places} {x : Point B} → Rep B (n + 3 + width C) (body p (n + 2) (p.to) (n + 2)) v x → Rep (Loop C B P) n p v (inner x)
    r_step : {C B P : Shape} {n v : ℕ} {p : Places} {x : Point P} → Rep P (n + 3 + width C + width B) (record p { to = n }) v x → Rep (Loop C B P) n p v (step x)
    do_head : {B C : Shape} {n : ℕ} {p : Places} → Rep (Do B C) n p n (do_inner before)
    do_until : {B C : Shape} {n : ℕ} {p : Places} → Rep (Do B C) n p (n + 1) (do_test before)
    do_choice : {B C : Shape} {n : ℕ} {p : Places} → Rep (Do B C) n p (n + 2) (do_test after)
    r_do : {B C : Shape} {n v : ℕ} {p : Places} {x : Point B} → Rep B (n + 3) (body p (n + 1) (p.to) (n + 1)) v x → Rep (Do B C) n p v (do_inner x)
    r_until : {B C : Shape} {n v : ℕ} {p : Places} {x : Point C} → Rep C (n + 3 + width B) (record p { to = n + 2 }) v x → Rep (Do B C) n p v (do_test x)
    r_case : {ps : Parts} {d : Bool} {n v : ℕ} {p : Places} {k : PartPoint ps} → PartRep ps n (n + count ps) (switch p) v k → Rep (Cases ps d) n p v (case k)
    r_row : {S : Shape} {ps : Parts} {n v : ℕ} {p : Places} {x : Point S} → Rep S (n + count ps) (group p ps n) v x → Rep (Seq S ps) n p v (parts (this x))
    r_rest : {S : Shape} {ps : Parts} {n v : ℕ} {p : Places} {k : PartPoint ps} → PartRep ps n (n + count ps + width S) p v k → Rep (Seq S ps) n p v (parts (later k))

  pub data PartRep : (ps : Parts) → ℕ → ℕ → Places → ℕ → PartPoint ps → Type 0 where
    part_head : {S : Shape} {ps : Parts} {i n : ℕ} {p : Places} → PartRep (Part S ps) i n p i (this before)
    r_this : {S : Shape} {ps : Parts} {i n v : ℕ} {p : Places} {x : Point S} → Rep S n (group p ps (i + 1)) v x → PartRep (Part S ps) i n p v (this x)
    r_later : {S : Shape} {ps : Parts} {i n v : ℕ} {p : Places} {k : PartPoint ps} → PartRep ps (i + 1) (n + width S) p v k → PartRep (Part S ps) i n p v (later k)

-- where the exits lead, with that end
abbrev exit_of : {P : Type 0} → Target P → Leave → Target P
exit_of end goes_on = end
exit_of end breaks = by_break
exit_of end continues = by_continue
exit_of end returns = by_return

module _ (env : Shapes) (g : Graph) where
  -- a path of points for an edge to the node w
  data Way {P : Type 0} (H : P → Label → Target P → Type 0) (R : ℕ → P → Type 0) (end : Target P) (p : Places) : P → Label → ℕ → Type 0 where
    arrives : {x y : P} {l : Label} {w : ℕ} → Path H x l (at y) → R w y → Way H R end p x l w
    gone : {x : P} {l : Label} → (e : Leave) → Path H x l (exit_of end e) → Way H R end p x l (leads p e)
    stop : {x : P} {k w : ℕ} {q : List (Option ℤ)} → Path H x (System k q) stopped → Only env g w (λ l b. ⊥) → Way H R end p x (System k q) w

  abbrev Trip : (S : Shape) → ℕ → Places → Point S → Label → ℕ → Type 0
  Trip S n p = Way (Hop S) (Rep S n p) (at after) p

  abbrev PartTrip : (ps : Parts) → ℕ → ℕ → Places → PartPoint ps → Label → ℕ → Type 0
  PartTrip ps i n p = Way (PartHop ps) (PartRep ps i n p) past p

  slowly : {S : Shape} {n w : ℕ} {p : Places} {x y : Point S} {l : Label} → Hop S x Silent (at y) → Trip S n p y l w → Trip S n p x l w
  slowly h (arrives q r) = arrives (slow h q) r
  slowly h (gone e q) = gone e (slow h q)
  slowly h (stop q o) = stop (slow h q) o

  -- a part's path in the whole, which goes on from each of the part's exits
  carried : {P Q : Type 0} {H : P → Label → Target P → Type 0} {K : Q → Label → Target Q → Type 0} {R : ℕ → P → Type 0} {T : ℕ → Q → Type 0} {end : Target P} {last : Target Q} {p r : Places} {x : P} {l : Label} {w : ℕ} → Way H R end p x l w → (m : Map P Q) → ((x : P) (l : Label) (t : Target P) → H x l t → K (m.point x) l (apply m t)) → ((v : ℕ) (y : P) → R v y → T v (m.point y)) → (Path K (m.point x) l (apply m end) → Way K T last r (m.point x) l (p.to)) → (Path K (m.point x) l (m.break_to) → Way K T last r (m.point x) l (p.brk)) → (Path K (m.point x) l (m.continue_to) → Way K T last r (m.point x) l (p.con)) → (Path K (m.point x) l by_return → Way K T last r (m.point x) l (p.ret)) → Way K T last r (m.point x) l w
  carried (arrives {y = y} {w = w} q r) m f h a b c d = arrives (map_path m f q) (h w y r)
  carried (gone goes_on q) m f h a b c d = a (map_path m f q)
  carried (gone breaks q) m f h a b c d = b (map_path m f q)
  carried (gone continues q) m f h a b c d = c (map_path m f q)
  carried (gone returns q) m f h a b c d = d (map_path m f q)
  carried (stop q o) m f h a b c d = stop (map_path m f q) o

  to_the_left : {S T : Shape} {n w : ℕ} {p : Places} {x : Point S} {l : Label} → Trip S n p x l w → Trip (Alt S T) n p (left x) l w
  to_the_left k = carried k (plain left) (λ x l t h. in_left h) (λ v y r. r_left r) (λ q. gone goes_on (more q left_out)) (λ q. gone breaks q) (λ q. gone continues q) (λ q. gone returns q)

  to_the_right : {S T : Shape} {n w : ℕ} {p : Places} {x : Point T} {l : Label} → Trip T (n + width S) p x l w → Trip (Alt S T) n p (right x) l w
  to_the_right k = carried k (plain right) (λ x l t h. in_right h) (λ v y r. r_right r) (λ q. gone goes_on (more q right_out)) (λ q. gone breaks q) (λ q. gone continues q) (λ q. gone returns q)

  to_test : {C B P : Shape} {n w : ℕ} {p : Places} {x : Point C} {l : Label} → Trip C (n + 3) (record p { to = n + 1 }) x l w → Trip (Loop C B P) n p (test x) l w
  to_test k = carried k (plain test) (λ x l t h. in_test h) (λ v y r. r_test r) (λ q. arrives q loop_test) (λ q. gone breaks q) (λ q. gone continues q) (λ q. gone returns q)

  to_inner : {C B P : Shape} {n w : ℕ} {p : Places} {x : Point B} {l : Label} → Trip B (n + 3 + width C) (body p (n + 2) (p.to) (n + 2)) x l w → Trip (Loop C B P) n p (inner x) l w
  to_inner {C = C} {B = B} {P = P} k = carried k (of_body C B P) (λ x l t h. in_inner h) (λ v y r. r_inner r) (λ q. arrives (more q loop_next) loop_step) (λ q. gone goes_on q) (λ q. arrives q loop_step) (λ q. gone returns q)

  to_step : {C B P : Shape} {n w : ℕ} {p : Places} {x : Point P} {l : Label} → Trip P (n + 3 + width C + width B) (record p { to = n }) x l w → Trip (Loop C B P) n p (step x) l w
  to_step k = carried k (plain step) (λ x l t h. in_step h) (λ v y r. r_step r) (λ q. arrives (more q loop_again) loop_head) (λ q. gone breaks q) (λ q. gone continues q) (λ q. gone returns q)

  to_do : {B C : Shape} {n w : ℕ} {p : Places} {x : Point B} {l : Label} → Trip B (n + 3) (body p (n + 1) (p.to) (n + 1)) x l w → Trip (Do B C) n p (do_inner x) l w
  to_do {B = B} {C = C} k = carried k (of_do B C) (λ x l t h. in_do h) (λ v y r. r_do r) (λ q. arrives (more q do_on) do_until) (λ q. gone goes_on q) (λ q. arrives q do_until) (λ q. gone returns q)

  to_until : {B C : Shape} {n w : ℕ} {p : Places} {x : Point C} {l : Label} → Trip C (n + 3 + width B) (record p { to = n + 2 }) x l w → Trip (Do B C) n p (do_test x) l w
  to_until k = carried k (plain do_test) (λ x l t h. in_until h) (λ v y r. r_until r) (λ q. arrives q do_choice) (λ q. gone breaks q) (λ q. gone continues q) (λ q. gone returns q)

  -- behind a part stands the next one, or the end
  onward : {S : Shape} (ps : Parts) {R : ℕ → PartPoint (Part S ps) → Type 0} {i m : ℕ} {p : Places} {k : PartPoint (Part S ps)} {l : Label} → ((y : PartPoint ps) → PartRep ps i m p i y → R i (later y)) → Path (PartHop (Part S ps)) k l (at (this after)) → Way (PartHop (Part S ps)) R past p k l (head ps i (p.to))
  onward End f q = gone goes_on (more q case_out)
  onward (Part T ps) f q = arrives (more q case_on) (f (this before) part_head)

  to_this : {S : Shape} {ps : Parts} {i n w : ℕ} {p : Places} {x : Point S} {l : Label} → Trip S n (group p ps (i + 1)) x l w → PartTrip (Part S ps) i n p (this x) l w
  to_this {ps = ps} k = carried k (plain this) (λ x l t h. in_this h) (λ v y r. r_this r) (λ q. onward ps (λ y r. r_later r) q) (λ q. gone breaks q) (λ q. gone continues q) (λ q. gone returns q)

  to_later : {S : Shape} {ps : Parts} {i n w : ℕ} {p : Places} {k : PartPoint ps} {l : Label} → PartTrip ps (i + 1) (n + width S) p k l w → PartTrip (Part S ps) i n p (later k) l w
  to_later k = carried k (plain later) (λ x l t h. in_later h) (λ v y r. r_later r) (λ q. gone goes_on q) (λ q. gone breaks q) (λ q. gone continues q) (λ q. gone returns q)

  to_case : {ps : Parts} {d : Bool} {n w : ℕ} {p : Places} {k : PartPoint ps} {l : Label} → PartTrip ps n (n + count ps) (switch p) k l w → Trip (Cases ps d) n p (case k) l w
  to_case {ps = ps} {d = d} k = carried k (of_cases ps d) (λ x l t h. in_case h) (λ v y r. r_case r) (λ q. gone goes_on q) (λ q. gone goes_on q) (λ q. gone continues q) (λ q. gone returns q)

  -- the parts of a row
  abbrev RowTrip : (S : Shape) (ps : Parts) → ℕ → Places → PartPoint (Part S ps) → Label → ℕ → Type 0
  RowTrip S ps n p = Way (PartHop (Part S ps)) (λ v k. Rep (Seq S ps) n p v (parts k)) past p

  of_row : {S : Shape} {ps : Parts} {n w : ℕ} {p : Places} {k : PartPoint (Part S ps)} {l : Label} → RowTrip S ps n p k l w → Trip (Seq S ps) n p (parts k) l w
  of_row {S = S} {ps = ps} k = carried k (of_seq S ps) (λ x l t h. in_seq h) (λ v y r. r) (λ q. gone goes_on q) (λ q. gone breaks q) (λ q. gone continues q) (λ q. gone returns q)

  to_row : {S : Shape} {ps : Parts} {n w : ℕ} {p : Places} {x : Point S} {l : Label} → Trip S (n + count ps) (group p ps n) x l w → Trip (Seq S ps) n p (parts (this x)) l w
  to_row {S = S} {ps = ps} {n = n} {w = w} {p = p} {x = x} {l = l} k =
      let r : RowTrip S ps n p (this x) l w = carried k (plain this) (λ x l t h. in_this h) (λ v y r. r_row r) (λ q. onward ps (λ y r. r_rest r) q) (λ q. gone breaks q) (λ q. gone continues q) (λ q. gone returns q) in
      of_row r

  to_rest : {S : Shape} {ps : Parts} {n w : ℕ} {p : Places} {k : PartPoint ps} {l : Label} → PartTrip ps n (n + count ps + width S) p k l w → Trip (Seq S ps) n p (parts (later k)) l w
  to_rest {S = S} {ps = ps} {n = n} {w = w} {p = p} {k = x} {l = l} k =
      let r : RowTrip S ps n p (later x) l w = carried k (plain later) (λ x l t h. in_later h) (λ v y r. r_rest r) (λ q. gone goes_on q) (λ q. gone breaks q) (λ q. gone continues q) (λ q. gone returns q) in
      of_row r

  record Picked (ps : Parts) (i n : ℕ) (p : Places) (b : ℕ) : Type 0 where
    k : PartPoint ps
    starts : Starts ps k
    rep : PartRep ps i n p b k

  picked : {ps : Parts} {i n b : ℕ} {p : Places} → Heads ps i b → Picked ps i n p b
  picked G.this = record { k = this before; starts = starts_this; rep = part_head }
  picked {n = n} {p = p} (G.later {S = S} {ps = ps} {m = m} {b = b} h) = let r = picked {ps = ps} {i = m + 1} {n = n + width S} {b = b} {p = p} h in record { k = later (r.k); starts = starts_later (r.starts); rep = r_later (r.rep) }

  start : {S : Shape} {n w : ℕ} {p : Places} {l : Label} → First S n p l w → {a : ℕ} → Laid env g S a n p → Trip S n p before l w
  start G.skip h = gone goes_on (one skip)
  start G.sys h = gone goes_on (one sys)
  start G.exit (G.exit e o) = stop (one exit) o
  start G.call h = gone goes_on (one call)
  start (G.left f) (G.either hs ht) = slowly to_left (to_the_left (start f hs))
  start (G.right f) (G.either hs ht) = slowly to_right (to_the_right (start f ht))
  start G.loop h = arrives (one loop_in) loop_head
  start G.until h = arrives (one do_in) do_head
  start (G.row f) (G.row hs h) = slowly seq_in (to_row (start f hs))
  start (G.case {ps = ps} {n = n} {b = b} {p = p} k) h = let r = picked {ps = ps} {i = n} {n = n + count ps} {b = b} {p = switch p} k in arrives (one (case_in (r.starts))) (r_case (r.rep))
  start G.no_case h = gone goes_on (one no_case)
  start G.break_out h = gone breaks (one break_out)
  start G.continue_on h = gone continues (one continue_on)
  start G.return_now h = gone returns (one return_now)

  after_test : {C B P : Shape} {a n w : ℕ} {p : Places} {l : Label} → OrSilent (p.to) (First B (n + 3 + width C) (body p (n + 2) (p.to) (n + 2))) l w → Laid env g B a (n + 3 + width C) (body p (n + 2) (p.to) (n + 2)) → Trip (Loop C B P) n p (test after) l w
  after_test out h = gone goes_on (one loop_out)
  after_test (into f) h = slowly loop_on (to_inner (start f h))

  after_until : {B C : Shape} {n w : ℕ} {p : Places} {l : Label} → TwoSilent n (p.to) l w → Trip (Do B C) n p (do_test after) l w
  after_until to_a = arrives (one do_again) do_head
  after_until to_b = gone goes_on (one do_out)

  weaker : {a : ℕ} {A B : Label → ℕ → Type 0} → Only env g a A → ((l : Label) (b : ℕ) → A l b → B l b) → Only env g a B
  weaker o f = record { edges = λ l b e. f l b (o.edges l b e); inner = o.inner }

  -- a node that a point stands for is no exit, and its edges are paths
  mutual
    next : {S : Shape} {n v : ℕ} {p : Places} {x : Point S} → Rep S n p v x → {a : ℕ} → Laid env g S a n p → Only env g v (Trip S n p x)
    next (r_left r) (G.either hs ht) = weaker (next r hs) (λ l w k. to_the_left k)
    next (r_right r) (G.either hs ht) = weaker (next r ht) (λ l w k. to_the_right k)
    next loop_head (G.loop s1 s2 a d hc hb hp o1 o2 o3) = weaker o1 (λ l w k. to_test (start k hc))
    next loop_test (G.loop s1 s2 a d hc hb hp o1 o2 o3) = weaker o2 (λ l w k. after_test k hb)
    next loop_step (G.loop s1 s2 a d hc hb hp o1 o2 o3) = weaker o3 (λ l w k. to_step (start k hp))
    next (r_test r) (G.loop s1 s2 a d hc hb hp o1 o2 o3) = weaker (next r hc) (λ l w k. to_test k)
    next (r_inner r) (G.loop s1 s2 a d hc hb hp o1 o2 o3) = weaker (next r hb) (λ l w k. to_inner k)
    next (r_step r) (G.loop s1 s2 a d hc hb hp o1 o2 o3) = weaker (next r hp) (λ l w k. to_step k)
    next do_head (G.until s1 a d c hb hc o1 o2 o3) = weaker o1 (λ l w k. to_do (start k hb))
    next do_until (G.until s1 a d c hb hc o1 o2 o3) = weaker o2 (λ l w k. to_until (start k hc))
    next do_choice (G.until s1 a d c hb hc o1 o2 o3) = weaker o3 (λ l w k. after_until k)
    next (r_do r) (G.until s1 a d c hb hc o1 o2 o3) = weaker (next r hb) (λ l w k. to_do k)
    next (r_until r) (G.until s1 a d c hb hc o1 o2 o3) = weaker (next r hc) (λ l w k. to_until k)
    next (r_row r) (G.row hs h) = weaker (next r hs) (λ l w k. to_row k)
    next (r_rest r) (G.row hs h) = weaker (next_part r h) (λ l w k. to_rest k)
    next (r_case r) (G.cases h c d) = weaker (next_part r h) (λ l w k. to_case k)

    next_part : {ps : Parts} {i n v : ℕ} {p : Places} {k : PartPoint ps} → PartRep ps i n p v k → LaidParts env g ps i n p → Only env g v (PartTrip ps i n p k)
    next_part part_head (one_part hs o h) = weaker o (λ l w k. to_this (start k hs))
    next_part (r_this r) (one_part hs o h) = weaker (next r hs) (λ l w k. to_this k)
    next_part (r_later r) (one_part hs o h) = weaker (next_part r h) (λ l w k. to_later k)

  record Called {P : Type 0} (trips : P → Label → ℕ → Type 0) (s w : ℕ) : Type 0 where
    x : P
    trip : trips x (Site s) w

  -- the call edges of a shape are those of its calls
  mutual
    site_trip : {S : Shape} {a n v w s : ℕ} {p : Places} → Lays S a n p v (Site s) w → Called (Trip S n p) s w
    site_trip L.call = record { x = before; trip = gone goes_on (one call) }
    site_trip (L.in_left e) = let r = site_trip e in record { x = left (r.x); trip = to_the_left (r.trip) }
    site_trip (L.in_right e) = let r = site_trip e in record { x = right (r.x); trip = to_the_right (r.trip) }
    site_trip (L.in_test e) = let r = site_trip e in record { x = test (r.x); trip = to_test (r.trip) }
    site_trip (L.in_body e) = let r = site_trip e in record { x = inner (r.x); trip = to_inner (r.trip) }
    site_trip (L.in_step e) = let r = site_trip e in record { x = step (r.x); trip = to_step (r.trip) }
    site_trip (L.in_do e) = let r = site_trip e in record { x = do_inner (r.x); trip = to_do (r.trip) }
    site_trip (L.in_until e) = let r = site_trip e in record { x = do_test (r.x); trip = to_until (r.trip) }
    site_trip (L.in_seq e) = let r = site_trip e in record { x = parts (this (r.x)); trip = to_row (r.trip) }
    site_trip (L.in_rest e) = let r = site_part e in record { x = parts (later (r.x)); trip = to_rest (r.trip) }
    site_trip (L.in_cases e) = let r = site_part e in record { x = case (r.x); trip = to_case (r.trip) }

    site_part : {ps : Parts} {i n v w s : ℕ} {p : Places} → LaysParts ps i n p v (Site s) w → Called (PartTrip ps i n p) s w
    site_part (L.in_part e) = let r = site_trip e in record { x = this (r.x); trip = to_this (r.trip) }
    site_part (L.in_later e) = let r = site_part e in record { x = later (r.x); trip = to_later (r.trip) }

module _ (env : Shapes) (closed : AreClosed env) where
  abbrev fs : List Shape
  fs = env.functions

  abbrev g : Graph
  g = graph env

  abbrev base : ℕ → ℕ
  base f = entry_at env.functions 0 f + 2

  from : LaidFrom env g base
  from = laid_from env closed

  abbrev H : (f : ℕ) → Point (shape_of env f) → Label → Target (Point (shape_of env f)) → Type 0
  H f = Hop (shape_of env f)

  -- what can be read from a target
  abbrev Then : (f : ℕ) → Target (Point (shape_of env f)) → List Event → Type 0
  Then f (at y) t = Walks env f y t
  Then f by_break t = Unit {0}
  Then f by_continue t = Unit {0}
  Then f by_return t = Walks env f after t
  Then f past t = ⊥
  Then f stopped t = t ≡ []

  sound : {f : ℕ} {x : Point (shape_of env f)} {l : Label} {T : Target (Point (shape_of env f))} → f < length fs → H f x l T → Allowed T l false false
  sound {f = f} lt h = allowed h false false (closed.bodies f Skip lt)

  hop_walk : {f : ℕ} {x : Point (shape_of env f)} {t : List Event} → f < length fs → (T : Target (Point (shape_of env f))) → H f x Silent T → Then f T t → Walks env f x t
  hop_walk lt (at y) h a = W.quiet h a
  hop_walk lt by_return h a = W.return h a
  hop_walk lt past h a = absurd a
  hop_walk lt stopped h a = absurd (sound lt h)
  hop_walk lt T h a = absurd (false≢true (sound lt h))

  silent_walk : {f : ℕ} {x : Point (shape_of env f)} {T : Target (Point (shape_of env f))} {t : List Event} → f < length fs → Path (H f) x Silent T → Then f T t → Walks env f x t
  silent_walk lt (one {t = T} h) a = hop_walk lt T h a
  silent_walk lt (slow h q) a = W.quiet h (silent_walk lt q a)
  silent_walk lt (more {t = T} q h) a = silent_walk lt q (hop_walk lt T h a)

  read_hop : {f n : ℕ} {q : List (Option ℤ)} {x : Point (shape_of env f)} {e : Event} {t : List Event} → f < length fs → (T : Target (Point (shape_of env f))) → H f x (System n q) T → Fits n q e → Then f T t → Walks env f x (e ∷ t)
  read_hop lt (at y) h fit a = W.reads h fit a
  read_hop {f = f} {x = x} {e = e} lt stopped h fit a = subst (λ t. Walks env f x (e ∷ t)) (sym a) (W.stops h fit)
  read_hop lt T h fit a = absurd (sound lt h)

  read_walk : {f n : ℕ} {q : List (Option ℤ)} {x : Point (shape_of env f)} {T : Target (Point (shape_of env f))} {e : Event} {t : List Event} → f < length fs → Path (H f) x (System n q) T → Fits n q e → Then f T t → Walks env f x (e ∷ t)
  read_walk lt (one {t = T} h) fit a = read_hop lt T h fit a
  read_walk lt (slow h q) fit a = W.quiet h (read_walk lt q fit a)
  read_walk lt (more {t = T} q h) fit a = read_walk lt q fit (hop_walk lt T h a)

  enter_hop : {f h s : ℕ} {x : Point (shape_of env f)} {t : List Event} → f < length fs → (T : Target (Point (shape_of env f))) → H f x (Site s) T → Contains (env.candidates s) h → Walks env h before t → Walks env f x t
  enter_hop lt (at y) k among a = W.enter k among a
  enter_hop lt T k among a = absurd (sound lt k)

  enter_walk : {f h s : ℕ} {x : Point (shape_of env f)} {T : Target (Point (shape_of env f))} {t : List Event} → f < length fs → Path (H f) x (Site s) T → Contains (env.candidates s) h → Walks env h before t → Walks env f x t
  enter_walk lt (one {t = T} k) among a = enter_hop lt T k among a
  enter_walk lt (slow k q) among a = W.quiet k (enter_walk lt q among a)
  enter_walk lt (more q k) among a = enter_walk lt q among a

  leave_hop : {f h s : ℕ} {x : Point (shape_of env f)} {t : List Event} → f < length fs → (T : Target (Point (shape_of env f))) → H f x (Site s) T → Contains (env.candidates s) h → Then f T t → Walks env h after t
  leave_hop lt (at y) k among a = W.leave k among a
  leave_hop lt T k among a = absurd (sound lt k)

  leave_walk : {f h s : ℕ} {x : Point (shape_of env f)} {T : Target (Point (shape_of env f))} {t : List Event} → f < length fs → Path (H f) x (Site s) T → Contains (env.candidates s) h → Then f T t → Walks env h after t
  leave_walk lt (one {t = T} k) among a = leave_hop lt T k among a
  leave_walk lt (slow k q) among a = leave_walk lt q among a
  leave_walk lt (more {t = T} q k) among a = leave_walk lt q among (hop_walk lt T k a)

  -- the point that stands for a node of f
  data Stand (f : ℕ) : ℕ → Point (shape_of env f) → Type 0 where
    entry : Stand f (g.entry f) before
    end : Stand f (g.exit f) after
    within : {v : ℕ} {x : Point (shape_of env f)} → Rep (shape_of env f) (base f) (ends (g.exit f)) v x → Stand f v x

  abbrev TripOf : (f : ℕ) → Point (shape_of env f) → Label → ℕ → Type 0
  TripOf f = Trip env g (shape_of env f) (base f) (ends (g.exit f))

  trip : {f v w : ℕ} {x : Point (shape_of env f)} {l : Label} → f < length fs → Stand f v x → g.edge v l w → TripOf f x l w
  trip {f = f} {w = w} {l = l} lt entry e = start env g ((from.begins f lt).edges l w e) (from.laid f lt)
  trip {f = f} {w = w} {l = l} lt end e = absurd (from.stops f lt l w e)
  trip {f = f} {w = w} {l = l} lt (within r) e = (next env g r (from.laid f lt)).edges l w e

  -- what a trip's end can read, where the walk goes on from the node w
  abbrev Rest : ℕ → ℕ → List Event → Type 0
  Rest f w t = (x : Point (shape_of env f)) → Stand f w x → Walks env f x t

  over_there : {w : ℕ} {t : List Event} → Only env g w (λ l b. ⊥) → NodeWalk env g w t → t ≡ []
  over_there o G.over = refl
  over_there o (G.silent {b = b} e k) = absurd (o.edges Silent b e)
  over_there o (G.system {b = b} {n = n} {q = q} e fit k) = absurd (o.edges (System n q) b e)
  over_there o (G.enter {b = b} {s = s} e among k) = absurd (o.edges (Site s) b e)
  over_there o (G.leave {f = f} lt is e among k) = absurd (o.inner f lt is)

  ending : {f : ℕ} {t : List Event} (e : Leave) → Rest f (leads (ends (g.exit f)) e) t → Then f (exit_of (at after) e) t
  ending breaks rest = tt
  ending continues rest = tt
  ending e rest = rest after end

  -- the target of a trip, from which the walk goes on as from w
  reached : {f w : ℕ} {x : Point (shape_of env f)} {l : Label} {t : List Event} → TripOf f x l w → NodeWalk env g w t → Rest f w t → (T : Target (Point (shape_of env f))) × Path (H f) x l T × Then f T t
  reached (arrives {y = y} q r) k rest = (at y, q, rest y (within r))
  reached (gone e q) k rest = (exit_of (at after) e, q, ending e rest)
  reached (stop q o) k rest = (stopped, q, over_there o k)

  left_at : {f h v : ℕ} {x : Point (shape_of env f)} {t : List Event} → f < length fs → h < length fs → Stand f v x → v ≡ g.exit h → Walks env h after t → Walks env f x t
  left_at {f = f} {h = h} lf lh entry e a = absurd ((from.begins f lf).inner h lh e)
  left_at {f = f} {h = h} {t = t} lf lh end e a = subst (λ f. Walks env f after t) (sym (from.same_exit f h lf lh e)) a
  left_at {f = f} {h = h} lf lh (within r) e a = absurd ((next env g r (from.laid f lf)).inner h lh e)

  to_points : {v : ℕ} {t : List Event} → NodeWalk env g v t → (f : ℕ) → f < length fs → (x : Point (shape_of env f)) → Stand f v x → Walks env f x t
  to_points G.over f lt x s = W.over
  to_points (G.silent e k) f lt x s = let (T, q, a) = reached (trip lt s e) k (λ y r. to_points k f lt y r) in silent_walk lt q a
  to_points (G.system e fit k) f lt x s = let (T, q, a) = reached (trip lt s e) k (λ y r. to_points k f lt y r) in read_walk lt q fit a
  to_points (G.enter {s = c} {f = h} e among k) f lt x s = let (T, q, a) = reached (trip lt s e) G.over (λ y r. W.over) in enter_walk lt q among (to_points k h (from.known c h among) before entry)
  to_points (G.leave {b = b} {c = c} {s = i} {f = h} lh is e among k) f lt x s = let o = one_from fs 0 (edge c (Site i) b) e in let (T, q, a) = reached ((site_trip env g (o.here)).trip) k (λ y r. to_points k (o.f) (o.below) y r) in left_at lt lh s is (leave_walk (o.below) q among a)

  pub nodes_to_points : (f : ℕ) → f < length fs → (t : List Event) → NodeWalk env g (g.entry f) t → Walks env f before t
  nodes_to_points f lt t k = to_points k f lt before entry
