-- A walk over points is a walk over nodes.
use Rattle.std.proofs.Common.{◌≡◌, ℕ, ℤ, zero, suc, ◌+◌, ◌<◌, List, [], ◌∷◌, Option, length, slice_index_or, ◌⊎◌, inl, inr, sym, subst, refl, arith}
use Rattle.dm_base.specs.declared.event.Event.{Event}
use Rattle.c_meaning.specs.Shape.{Shape, Skip, Seq, Parts, Part, Shapes, shape_of}
use Rattle.c_meaning.specs.Walks.{Point, PartPoint, before, after, left, right, test, inner, step, do_inner, do_test, parts, case, this, later, Target, at, by_break, by_continue, by_return, past, stopped, Map, apply, plain, of_body, of_do, of_seq, of_cases, Starts, starts_this, starts_later, Label, Silent, System, Site, Hop, PartHop, skip, sys, exit, call, to_left, to_right, left_out, right_out, in_left, in_right, loop_in, loop_on, loop_out, loop_next, loop_again, in_test, in_inner, in_step, do_in, do_on, do_again, do_out, in_do, in_until, seq_in, in_seq, case_in, no_case, in_case, break_out, continue_on, return_now, in_this, in_later, case_on, case_out, Walks}
use Rattle.c_meaning.specs.Walks as W
use Rattle.c_meaning.specs.GraphLayout.{Places, ends, body, width, count, group, switch}
use Rattle.c_meaning.proofs.Laid.{Graph, Laid, LaidParts, one_part, LaidFrom, Heads, NodeWalk}
use Rattle.c_meaning.proofs.Laid as G

abbrev mutual
  pub node : {S : Shape} → Point S → ℕ → ℕ → Places → ℕ
  node before a n p = a
  node after a n p = p.to
  node (left x) a n p = node x a n p
  node (right {S = S} x) a n p = node x a (n + width S) p
  node (test x) a n p = node x n (n + 3) (record p { to = n + 1 })
  node (inner {C = C} x) a n p = node x (n + 1) (n + 3 + width C) (body p (n + 2) (p.to) (n + 2))
  node (step {C = C} {B = B} x) a n p = node x (n + 2) (n + 3 + width C + width B) (record p { to = n })
  node (do_inner x) a n p = node x n (n + 3) (body p (n + 1) (p.to) (n + 1))
  node (do_test {B = B} x) a n p = node x (n + 1) (n + 3 + width B) (record p { to = n + 2 })
  node (parts {S = S} {ps = ps} (this x)) a n p = node x a (n + count ps) (group p ps n)
  node (parts {S = S} {ps = ps} (later k)) a n p = node_part k n (n + count ps + width S) p
  node (case {ps = ps} k) a n p = node_part k n (n + count ps) (switch p)

  pub node_part : {ps : Parts} → PartPoint ps → ℕ → ℕ → Places → ℕ
  node_part (this {ps = ps} x) i n p = node x i n (group p ps (i + 1))
  node_part (later {S = S} k) i n p = node_part k (i + 1) (n + width S) p

-- the nodes where the exits lead
record Ways : Type 1 where
  brk : ℕ → Type 0
  con : ℕ → Type 0
  ret : ℕ → Type 0
  end : ℕ → Type 0

abbrev ways : Places → Ways
ways p = record { brk = λ v. v ≡ p.brk; con = λ v. v ≡ p.con; ret = λ v. v ≡ p.ret; end = λ v. ⊥ }

abbrev part_ways : Places → Ways
part_ways p = record { brk = λ v. v ≡ p.brk; con = λ v. v ≡ p.con; ret = λ v. v ≡ p.ret; end = λ v. v ≡ p.to }

-- the nodes of a target
abbrev Land : {P : Type 0} → (P → ℕ) → Ways → Target P → ℕ → Type 0
Land node q (at x) v = v ≡ node x
Land node q by_break v = q.brk v
Land node q by_continue v = q.con v
Land node q by_return v = q.ret v
Land node q past v = q.end v
Land node q stopped v = Unit {0}

module _ (env : Shapes) (g : Graph) where
  -- one edge, or none where nothing is read
  data Moves (v : ℕ) : Label → ℕ → Type 0 where
    stay : Moves v Silent v
    edge : {l : Label} {w : ℕ} → g.edge v l w → Moves v l w

  record Lead {P : Type 0} (node : P → ℕ) (q : Ways) (v : ℕ) (l : Label) (t : Target P) : Type 0 where
    w : ℕ
    lands : Land node q t w
    moves : Moves v l w

  -- a part's step is a step of the whole
  carry : {P Q : Type 0} (m : Map P Q) (f : Q → ℕ) (q r : Ways) {v : ℕ} {l : Label} (t : Target P) → ((w : ℕ) → r.brk w → Land f q (m.break_to) w) → ((w : ℕ) → r.con w → Land f q (m.continue_to) w) → ((w : ℕ) → r.ret w → q.ret w) → ((w : ℕ) → r.end w → Land f q (m.past_to) w) → Lead (λ x. f (m.point x)) r v l t → Lead f q v l (apply m t)
  carry m f q r by_break hb hc hr he k = record { w = k.w; lands = hb (k.w) (k.lands); moves = k.moves }
  carry m f q r by_continue hb hc hr he k = record { w = k.w; lands = hc (k.w) (k.lands); moves = k.moves }
  carry m f q r by_return hb hc hr he k = record { w = k.w; lands = hr (k.w) (k.lands); moves = k.moves }
  carry m f q r past hb hc hr he k = record { w = k.w; lands = he (k.w) (k.lands); moves = k.moves }
  carry m f q r t hb hc hr he k = record { w = k.w; lands = k.lands; moves = k.moves }

  carry_plain : {P Q : Type 0} (h : P → Q) (f : Q → ℕ) (q : Ways) {v : ℕ} {l : Label} (t : Target P) → Lead (λ x. f (h x)) q v l t → Lead f q v l (apply (plain h) t)
  carry_plain h f q t k = carry (plain h) f q q t (λ w e. e) (λ w e. e) (λ w e. e) (λ w e. e) k

  by_edge : {P : Type 0} {node : P → ℕ} {q : Ways} {v w : ℕ} {l : Label} {t : Target P} → g.edge v l w → Land node q t w → Lead node q v l t
  by_edge {w = w} e h = record { w = w; lands = h; moves = edge e }

  in_place : {P : Type 0} {node : P → ℕ} {q : Ways} {v : ℕ} {t : Target P} → Land node q t v → Lead node q v Silent t
  in_place {v = v} h = record { w = v; lands = h; moves = stay }

  heads_of : {ps : Parts} {k : PartPoint ps} → Starts ps k → (i n : ℕ) (p : Places) → Heads ps i (node_part k i n p)
  heads_of starts_this i n p = G.this
  heads_of (starts_later {S = S} k) i n p = G.later (heads_of k (i + 1) (n + width S) p)

  mutual
    lead : {S : Shape} {x : Point S} {l : Label} {t : Target (Point S)} → Hop S x l t → {a n : ℕ} {p : Places} → Laid env g S a n p → Lead {P = Point S} (λ x. node x a n p) (ways p) (node x a n p) l t
    lead skip (G.skip e) = by_edge e refl
    lead sys (G.sys e) = by_edge e refl
    lead exit (G.exit e o) = by_edge e tt
    lead call (G.call h) = by_edge h refl
    lead (in_left {t = t} k) (G.either {a = a} {n = n} {p = p} hs ht) = carry_plain left (λ x. node x a n p) (ways p) t (lead k hs)
    lead (in_right {t = t} k) (G.either {a = a} {n = n} {p = p} hs ht) = carry_plain right (λ x. node x a n p) (ways p) t (lead k ht)
    lead loop_in (G.loop s1 s2 a e hc hb hp o1 o2 o3) = by_edge a refl
    lead loop_out (G.loop s1 s2 a e hc hb hp o1 o2 o3) = by_edge e refl
    lead (in_test {t = t} k) (G.loop {a = a} {n = n} {p = p} s1 s2 a0 e hc hb hp o1 o2 o3) = carry_plain test (λ x. node x a n p) (ways p) t (lead k hc)
    lead (in_inner {C = C} {B = B} {P = P} {t = t} k) (G.loop {a = a} {n = n} {p = p} s1 s2 a0 e hc hb hp o1 o2 o3) = carry (of_body C B P) (λ x. node x a n p) (ways p) (ways (body p (n + 2) (p.to) (n + 2))) t (λ w e. e) (λ w e. e) (λ w e. e) (λ w e. e) (lead k hb)
    lead (in_step {t = t} k) (G.loop {a = a} {n = n} {p = p} s1 s2 a0 e hc hb hp o1 o2 o3) = carry_plain step (λ x. node x a n p) (ways p) t (lead k hp)
    lead do_in (G.until s1 a d e hb hc o1 o2 o3) = by_edge a refl
    lead do_again (G.until s1 a d e hb hc o1 o2 o3) = by_edge d refl
    lead do_out (G.until s1 a d e hb hc o1 o2 o3) = by_edge e refl
    lead (in_do {B = B} {C = C} {t = t} k) (G.until {a = a} {n = n} {p = p} s1 a0 d e hb hc o1 o2 o3) = carry (of_do B C) (λ x. node x a n p) (ways p) (ways (body p (n + 1) (p.to) (n + 1))) t (λ w e. e) (λ w e. e) (λ w e. e) (λ w e. e) (lead k hb)
    lead (in_until {t = t} k) (G.until {a = a} {n = n} {p = p} s1 a0 d e hb hc o1 o2 o3) = carry_plain do_test (λ x. node x a n p) (ways p) t (lead k hc)
    lead (in_seq {S = S} {ps = ps} {t = t} k) (G.row {a = a} {n = n} {p = p} hs h) = carry (of_seq S ps) (λ x. node x a n p) (ways p) (part_ways p) t (λ w e. e) (λ w e. e) (λ w e. e) (λ w e. e) (lead_row k hs h)
    lead (case_in {k = k} s) (G.cases {ps = ps} {n = n} {p = p} h c e) = by_edge (c (node_part k n (n + count ps) (switch p)) (heads_of s n (n + count ps) (switch p))) refl
    lead no_case (G.cases h c e) = by_edge (e refl) refl
    lead (in_case {ps = ps} {d = d} {t = t} k) (G.cases {a = a} {n = n} {p = p} h c e) = carry (of_cases ps d) (λ x. node x a n p) (ways p) (part_ways (switch p)) t (λ w e. e) (λ w e. e) (λ w e. e) (λ w e. e) (lead_part k h)
    lead break_out (G.break_out e) = by_edge e refl
    lead continue_on (G.continue_on e) = by_edge e refl
    lead return_now (G.return_now e) = by_edge e refl
    lead k x = in_place refl

    lead_part : {ps : Parts} {x : PartPoint ps} {l : Label} {t : Target (PartPoint ps)} → PartHop ps x l t → {i n : ℕ} {p : Places} → LaidParts env g ps i n p → Lead {P = PartPoint ps} (λ x. node_part x i n p) (part_ways p) (node_part x i n p) l t
    lead_part (in_this {t = t} k) (one_part {ps = ps} {m = i} {n = n} {p = p} hs o h) = carry (plain this) (λ x. node_part x i n p) (part_ways p) (ways (group p ps (i + 1))) t (λ w e. e) (λ w e. e) (λ w e. e) (λ w e. absurd e) (lead k hs)
    lead_part (in_later {t = t} k) (one_part {m = i} {n = n} {p = p} hs o h) = carry_plain later (λ x. node_part x i n p) (part_ways p) t (lead_part k h)
    lead_part k x = in_place refl

    lead_row : {S : Shape} {ps : Parts} {x : PartPoint (Part S ps)} {l : Label} {t : Target (PartPoint (Part S ps))} → PartHop (Part S ps) x l t → {a n : ℕ} {p : Places} → Laid env g S a (n + count ps) (group p ps n) → LaidParts env g ps n (n + count ps + width S) p → Lead {P = PartPoint (Part S ps)} (λ k. node {S = Seq S ps} (parts k) a n p) (part_ways p) (node {S = Seq S ps} (parts x) a n p) l t
    lead_row (in_this {S = S} {ps = ps} {t = t} k) {a = a} {n = n} {p = p} hs h = carry (plain this) (λ k. node {S = Seq S ps} (parts k) a n p) (part_ways p) (ways (group p ps n)) t (λ w e. e) (λ w e. e) (λ w e. e) (λ w e. absurd e) (lead k hs)
    lead_row (in_later {S = S} {ps = ps} {t = t} k) {a = a} {n = n} {p = p} hs h = carry_plain later (λ k. node {S = Seq S ps} (parts k) a n p) (part_ways p) t (lead_part k h)
    lead_row case_on hs h = in_place refl
    lead_row case_out hs h = in_place refl

-- a step past a call at some site
record PassesCall (S : Shape) : Type 0 where
  x : Point S
  s : ℕ
  y : Target (Point S)
  hop : Hop S x (Site s) y

nowhere_in_skip : {x : Point Skip} {s : ℕ} {y : Target (Point Skip)} → Hop Skip x (Site s) y → ⊥
nowhere_in_skip h = elim h [ ]

listed_or : (fs : List Shape) (f : ℕ) → (f < length fs) ⊎ (slice_index_or fs f Skip ≡ Skip)
listed_or [] f = inr refl
listed_or (S ∷ fs) zero = inl (omega arith)
listed_or (S ∷ fs) (suc f) = elim (listed_or fs f) as (λ h. (suc f < length (S ∷ fs)) ⊎ (slice_index_or fs f Skip ≡ Skip)) [ inl lt ↦ inl (omega (arith, lt)) | inr e ↦ inr e ]

-- a function with a call is one of the list
listed : (fs : List Shape) (f : ℕ) → PassesCall (slice_index_or fs f Skip) → f < length fs
listed fs f p = elim (listed_or fs f) as (λ h. f < length fs) [ inl lt ↦ lt | inr e ↦ absurd (nowhere_in_skip ((subst PassesCall e p).hop)) ]

module _ (env : Shapes) (g : Graph) (base : ℕ → ℕ) (from : LaidFrom env g base) where
  abbrev pub place : (f : ℕ) → Point (shape_of env f) → ℕ
  place f x = node x (g.entry f) (base f) (ends (g.exit f))

  told : {w y : ℕ} {t : List Event} → w ≡ y → NodeWalk env g y t → NodeWalk env g w t
  told {t = t} e h = subst (λ y. NodeWalk env g y t) (sym e) h

  silently : {v w : ℕ} {t : List Event} → Moves env g v Silent w → NodeWalk env g w t → NodeWalk env g v t
  silently stay h = h
  silently (edge k) h = G.silent k h

  system_edge : {v w n : ℕ} {q : List (Option ℤ)} → Moves env g v (System n q) w → g.edge v (System n q) w
  system_edge (edge k) = k

  site_edge : {v w s : ℕ} → Moves env g v (Site s) w → g.edge v (Site s) w
  site_edge (edge k) = k

  -- a function from whose points a step leads is one of the list
  pub to_nodes : {f : ℕ} {x : Point (shape_of env f)} {t : List Event} → Walks env f x t → f < length env.functions → NodeWalk env g (place f x) t
  to_nodes W.over lt = G.over
  to_nodes (W.quiet {f = f} h k) lt = let r = lead env g h (from.laid f lt) in silently (r.moves) (told (r.lands) (to_nodes k lt))
  to_nodes (W.reads {f = f} h fit k) lt = let r = lead env g h (from.laid f lt) in G.system (system_edge (r.moves)) fit (told (r.lands) (to_nodes k lt))
  to_nodes (W.stops {f = f} h fit) lt = let r = lead env g h (from.laid f lt) in G.system (system_edge (r.moves)) fit G.over
  to_nodes (W.return {f = f} h k) lt = let r = lead env g h (from.laid f lt) in silently (r.moves) (told (r.lands) (to_nodes k lt))
  to_nodes (W.enter {f = f} {h = h} {s = s} i among k) lt = let r = lead env g i (from.laid f lt) in G.enter (site_edge (r.moves)) among (to_nodes k (from.known s h among))
  to_nodes (W.leave {f = f} {s = s} {x = x} {y = y} i among k) lt = let lf = listed env.functions f (record { x = x; s = s; y = at y; hop = i }) in let r = lead env g i (from.laid f lf) in G.leave lt refl (site_edge (r.moves)) among (told (r.lands) (to_nodes k lf))
