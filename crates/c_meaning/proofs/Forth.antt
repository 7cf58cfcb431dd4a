-- Each word of a shape is read by a run of the graph that is laid from it.
use Rattle.std.proofs.Common.{◌≡◌, ℕ, ◌+◌, List, ◌∷◌, sym, subst, refl}
use Rattle.dm_base.specs.declared.event.Event.{Event}
use Rattle.c_meaning.specs.Shape.{Shape, Parts, Shapes, Leave, goes_on, breaks, returns, IsDone, IsNext, IsAway}
use Rattle.c_meaning.specs.Words.{Marks, Whole, Rounds, Again, Falls, Picks, Front, FrontFalls, FrontPicks}
use Rattle.c_meaning.specs.Words as F
use Rattle.c_meaning.specs.Walks.{Silent}
use Rattle.c_meaning.specs.GraphLayout.{Places, ends, body, head}
use Rattle.c_meaning.proofs.Laid.{Graph, Run, along, leave, over, then, silent, system, enter, LaidFrom, leads, Laid, LaidParts, one_part, Heads}
use Rattle.c_meaning.proofs.Laid as G

module _ (env : Shapes) (g : Graph) (m : Marks) (base : ℕ → ℕ) (from : LaidFrom env g base) where
  -- a silent step first
  slide : {a b c : ℕ} {z w : List ℕ} {t v : List Event} → g.edge a Silent b → Run env g m b z t c w v → Run env g m a z t c w v
  slide e r = then (along e silent) r

  -- the exits of a function lead to its exit node
  done : (x : Leave) {e : ℕ} → IsDone x → leads (ends e) x ≡ e
  done goes_on h = refl
  done x h = refl

  -- where a body is left for the next round it goes to one place
  next : (x : Leave) (to brk : ℕ) (p : Places) → IsNext x → leads (body p to brk to) x ≡ to
  next breaks to brk p h = elim h [ ]
  next returns to brk p h = elim h [ ]
  next x to brk p h = refl

  -- other exits than On lead past the place where a part ends
  past : (x : Leave) (to : ℕ) (p : Places) → IsAway x → leads (record p { to = to }) x ≡ leads p x
  past goes_on to p h = elim h [ ]
  past x to p h = refl

  moved : {a b c : ℕ} {z w : List ℕ} {t v : List Event} → a ≡ b → Run env g m b z t c w v → Run env g m a z t c w v
  moved {c = c} {z = z} {w = w} {t = t} {v = v} e r = subst (λ a. Run env g m a z t c w v) (sym e) r

  mutual
    runs : {S : Shape} {x : Leave} {t u : List Event} → Whole env m S x t u → {a n c : ℕ} {p : Places} {z w : List ℕ} {v : List Event} → Laid env g S a n p → Run env g m (leads p x) z u c w v → Run env g m a z t c w v
    runs F.skip (G.skip h) r = slide h r
    runs (F.sys fit) (G.sys h) r = then (along h (system fit)) r
    runs (F.call {s = s} {f = f} {x = x} among before w done_by after) (G.call h) r =
        then (along h (enter among before)) (runs w (from.laid f (from.known s f among)) (moved (done x done_by) (then (leave (from.known s f among) refl h among after) r)))
    runs (F.left s) (G.either hs ht) r = runs s hs r
    runs (F.right s) (G.either hs ht) r = runs s ht r
    runs (F.loop_end k c) (G.loop s1 s2 a b hc hb hp o1 o2 o3) r = slide a (rounds k hc hb hp (runs c hc (slide b r)))
    runs (F.loop_break k c b) (G.loop s1 s2 a e hc hb hp o1 o2 o3) r = slide a (rounds k hc hb hp (runs c hc (runs b hb r)))
    runs (F.loop_return k c b) (G.loop s1 s2 a e hc hb hp o1 o2 o3) r = slide a (rounds k hc hb hp (runs c hc (runs b hb r)))
    runs (F.do_end {y = y} k ok b c) (G.until {n = n} {p = p} s1 a d e hb hc o1 o2 o3) r = slide a (agains k d hb hc (runs b hb (moved (next y (n + 1) (p.to) p ok) (runs c hc (slide e r)))))
    runs (F.do_break k b) (G.until s1 a d e hb hc o1 o2 o3) r = slide a (agains k d hb hc (runs b hb r))
    runs (F.do_return k b) (G.until s1 a d e hb hc o1 o2 o3) r = slide a (agains k d hb hc (runs b hb r))
    runs (F.cases_end k) (G.cases h c e) r = picks k h c r
    runs (F.cases_break k) (G.cases h c e) r = picks k h c r
    runs (F.cases_continue k) (G.cases h c e) r = picks k h c r
    runs (F.cases_return k) (G.cases h c e) r = picks k h c r
    runs (F.in_order (F.falls_on s k)) (G.row hs h) r = runs s hs (falls k h r)
    runs (F.in_order (F.falls_away {x = x} off s)) (G.row {ps = ps} {n = n} {p = p} hs h) r = runs s hs (moved (past x (head ps n (p.to)) p off) r)
    runs F.cases_none (G.cases h c e) r = slide (e refl) r
    runs F.break_out (G.break_out h) r = slide h r
    runs F.continue_on (G.continue_on h) r = slide h r
    runs F.return_now (G.return_now h) r = slide h r

    rounds : {C B P : Shape} {t u : List Event} → Rounds env m C B P t u → {n i j k c : ℕ} {p : Places} {z w : List ℕ} {v : List Event} → Laid env g C n i (record p { to = n + 1 }) → Laid env g B (n + 1) j (body p (n + 2) (p.to) (n + 2)) → Laid env g P (n + 2) k (record p { to = n }) → Run env g m n z u c w v → Run env g m n z t c w v
    rounds F.none hc hb hp r = r
    rounds (F.round {y = y} k c ok b q) {n = n} {p = p} hc hb hp r = rounds k {p = p} hc hb hp (runs c hc (runs b hb (moved (next y (n + 2) (p.to) p ok) (runs q hp r))))

    agains : {B C : Shape} {t u : List Event} → Again env m B C t u → {n i j c : ℕ} {p : Places} {z w : List ℕ} {v : List Event} → g.edge (n + 2) Silent n → Laid env g B n i (body p (n + 1) (p.to) (n + 1)) → Laid env g C (n + 1) j (record p { to = n + 2 }) → Run env g m n z u c w v → Run env g m n z t c w v
    agains F.first d hb hc r = r
    agains (F.again {y = y} k ok b c) {n = n} {p = p} d hb hc r = agains k {p = p} d hb hc (runs b hb (moved (next y (n + 1) (p.to) p ok) (runs c hc (slide d r))))

    falls : {ps : Parts} {x : Leave} {t u : List Event} → Falls env m ps x t u → {i n c : ℕ} {p : Places} {z w : List ℕ} {v : List Event} → LaidParts env g ps i n p → Run env g m (leads p x) z u c w v → Run env g m (head ps i (p.to)) z t c w v
    falls F.ended h r = r
    falls (F.falls_on s k) (one_part hs o h) r = runs s hs (falls k h r)
    falls (F.falls_away {x = x} off s) (one_part {ps = ps} {m = i} {p = p} hs o h) r = runs s hs (moved (past x (head ps (i + 1) (p.to)) p off) r)

    picks : {ps : Parts} {x : Leave} {t u : List Event} → Picks env m ps x t u → {a i n c : ℕ} {p : Places} {z w : List ℕ} {v : List Event} → LaidParts env g ps i n p → ((b : ℕ) → Heads ps i b → g.edge a Silent b) → Run env g m (leads p x) z u c w v → Run env g m a z t c w v
    picks (F.this k) (one_part {m = i} hs o h) e r = slide (e i G.this) (falls k (one_part hs o h) r)
    picks (F.later k) (one_part hs o h) e r = picks k h (λ b q. e b (G.later q)) r

  -- what is read from the configuration (a, z), with u left
  abbrev Reads : ℕ → List ℕ → List Event → List Event → Type 0
  Reads a z t u = (c : ℕ) × (w : List ℕ) × Run env g m a z t c w u

  choose : {ps : Parts} {t u : List Event} → FrontFalls env m ps t u → {a i n : ℕ} {p : Places} {z : List ℕ} → LaidParts env g ps i n p → ((b : ℕ) → Heads ps i b → g.edge a Silent b) → Reads (head ps i (p.to)) z t u → Reads a z t u
  choose (F.in_part k) (one_part {m = i} hs o h) e r = (r.0, r.1, slide (e i G.this) r.2)
  choose (F.in_next s k) (one_part {m = i} hs o h) e r = (r.0, r.1, slide (e i G.this) r.2)

  mutual
    pub fronts : {S : Shape} {t u : List Event} → Front env m S t u → {a n : ℕ} {p : Places} {z : List ℕ} → Laid env g S a n p → Reads a z t u
    fronts F.nothing {a = a} {z = z} h = (a, z, over)
    fronts (F.all {x = x} w) {p = p} {z = z} h = (leads p x, z, runs w h over)
    fronts (F.exits fit) {z = z} (G.exit {n = n} h o) = (n, z, then (along h (system fit)) over)
    fronts (F.inside {s = s} {f = f} among before k) {z = z} (G.call h) =
        let r = fronts k {z = s ∷ z} (from.laid f (from.known s f among)) in
        (r.0, r.1, then (along h (enter among before)) r.2)
    fronts (F.in_left k) (G.either hs ht) = fronts k hs
    fronts (F.in_right k) (G.either hs ht) = fronts k ht
    fronts (F.in_test k c) (G.loop {p = p} s1 s2 a e hc hb hp o1 o2 o3) = let r = fronts c hc in (r.0, r.1, slide a (rounds k {p = p} hc hb hp r.2))
    fronts (F.in_body k c b) (G.loop {p = p} s1 s2 a e hc hb hp o1 o2 o3) = let r = fronts b hb in (r.0, r.1, slide a (rounds k {p = p} hc hb hp (runs c hc r.2)))
    fronts (F.in_step {y = y} k c ok b q) (G.loop {n = n} {p = p} s1 s2 a e hc hb hp o1 o2 o3) = let r = fronts q hp in (r.0, r.1, slide a (rounds k {p = p} hc hb hp (runs c hc (runs b hb (moved (next y (n + 2) (p.to) p ok) r.2)))))
    fronts (F.in_do k b) (G.until {p = p} s1 a d e hb hc o1 o2 o3) = let r = fronts b hb in (r.0, r.1, slide a (agains k {p = p} d hb hc r.2))
    fronts (F.in_until {y = y} k ok b c) (G.until {n = n} {p = p} s1 a d e hb hc o1 o2 o3) = let r = fronts c hc in (r.0, r.1, slide a (agains k {p = p} d hb hc (runs b hb (moved (next y (n + 1) (p.to) p ok) r.2))))
    fronts (F.in_seq (F.in_part k)) (G.row hs h) = fronts k hs
    fronts (F.in_seq (F.in_next s k)) (G.row hs h) = let r = front_falls k h in (r.0, r.1, runs s hs r.2)
    fronts (F.in_cases k) (G.cases h c e) = front_picks k h c

    front_falls : {ps : Parts} {t u : List Event} → FrontFalls env m ps t u → {i n : ℕ} {p : Places} {z : List ℕ} → LaidParts env g ps i n p → Reads (head ps i (p.to)) z t u
    front_falls (F.in_part k) (one_part hs o h) = fronts k hs
    front_falls (F.in_next s k) (one_part hs o h) = let r = front_falls k h in (r.0, r.1, runs s hs r.2)

    front_picks : {ps : Parts} {t u : List Event} → FrontPicks env m ps t u → {a i n : ℕ} {p : Places} {z : List ℕ} → LaidParts env g ps i n p → ((b : ℕ) → Heads ps i b → g.edge a Silent b) → Reads a z t u
    front_picks (F.from_this k) h e = choose k h e (front_falls k h)
    front_picks (F.from_later k) (one_part hs o h) e = front_picks k h (λ b q. e b (G.later q))
