-- The graph of a program's shapes is laid from them.
use Rattle.std.proofs.Common.{◌≡◌, ◌≢◌, ℕ, zero, suc, Bool, true, false, ◌+◌, ◌<◌, ◌≤◌, List, [], ◌∷◌, ◌++◌, length, Contains, AllPairs, flat_map, slice_index_or, sym, ap, ap₂, ◌∙◌, subst, refl, arith}
use Rattle.std.proofs.lemmas.List.Elements.{Contains-append_left, Contains-append_right}
use Rattle.c_meaning.specs.Shape.{Shape, Skip, Seq, Alt, Loop, Do, Cases, Parts, End, Part, Shapes}
use Rattle.c_meaning.specs.Walks.{Label, Site}
use Rattle.c_meaning.specs.GraphLayout.{Edge, edge, Places, ends, body, switch, group, count, width, edges, edges_of_parts, to_each, past_all}
use Rattle.c_meaning.specs.GraphOf.{edges_from}
use Rattle.c_meaning.specs.Premises.{sites, sites_of_parts, AreClosed}
use Rattle.flow_model.proofs.PairsLemmas.{pairs_head, pairs_tail}
use Rattle.c_meaning.proofs.Laid.{Graph, LaidFrom}
use Rattle.c_meaning.proofs.Edges.{Lays, source, label, goal, either, none_of, lays_from, lays_to}
use Rattle.c_meaning.proofs.Owns.{sources, begin, laid, Owns}
use Rattle.c_meaning.proofs.Members.{is_later}

-- the shape and the entry of the function f of those from the node n on
abbrev pub at : List Shape → ℕ → Shape
at fs f = slice_index_or fs f Skip

abbrev pub entry_at : List Shape → ℕ → ℕ → ℕ
entry_at (S ∷ fs) n (suc f) = entry_at fs (n + 2 + width S) f
entry_at a n f = n

abbrev pub Here : List Shape → ℕ → ℕ → ℕ → Label → ℕ → Type 0
Here fs n f x l y = Lays (at fs f) (entry_at fs n f) (entry_at fs n f + 2) (ends (entry_at fs n f + 1)) x l y

-- an edge of one of the functions
pub record One (fs : List Shape) (n x : ℕ) (l : Label) (y : ℕ) : Type 0 where
  pub f : ℕ
  pub below : f < length fs
  pub here : Here fs n f x l y

abbrev pub OneOf : List Shape → ℕ → Edge → Type 0
OneOf fs n e = One fs n (source e) (label e) (goal e)

pub one_from : (fs : List Shape) (n : ℕ) (e : Edge) → Contains (edges_from n fs) e → OneOf fs n e
one_from [] n e h = none_of (OneOf [] n) e h
one_from (S ∷ fs) n e h = either (OneOf (S ∷ fs) n) (edges S n (n + 2) (ends (n + 1))) (edges_from (n + 2 + width S) fs) e h (λ k. record { f = 0; below = omega arith; here = lays_from S n (n + 2) (ends (n + 1)) e k }) (λ k. let o = one_from fs (n + 2 + width S) e k in let lt = o.below in record { f = suc (o.f); below = omega (arith, lt); here = o.here })

one_to : (fs : List Shape) (n f x : ℕ) (l : Label) (y : ℕ) → f < length fs → Here fs n f x l y → Contains (edges_from n fs) (edge x l y)
one_to [] n f x l y lt h = absurd (omega (arith, lt))
one_to (S ∷ fs) n zero x l y lt h = Contains-append_left (edges S n (n + 2) (ends (n + 1))) (edges_from (n + 2 + width S) fs) (edge x l y) (lays_to h)
one_to (S ∷ fs) n (suc f) x l y lt h = Contains-append_right (edges S n (n + 2) (ends (n + 1))) (edges_from (n + 2 + width S) fs) (edge x l y) (one_to fs (n + 2 + width S) f x l y (omega (arith, lt)) h)

low : (fs : List Shape) (n f : ℕ) → n ≤ entry_at fs n f
low (S ∷ fs) n (suc f) = let k = low fs (n + 2 + width S) f in omega (arith, k)
low fs n f = omega arith

above : (fs : List Shape) (n f h : ℕ) → f < h → h < length fs → entry_at fs n f + 2 + width (at fs f) ≤ entry_at fs n h
above [] n f h lt in_list = absurd (omega (arith, in_list))
above (S ∷ fs) n zero (suc h) lt in_list = low fs (n + 2 + width S) h
above (S ∷ fs) n (suc f) (suc h) lt in_list = above fs (n + 2 + width S) f h (omega (arith, lt)) (omega (arith, in_list))
above (S ∷ fs) n f zero lt in_list = absurd (omega (arith, lt))

-- a node is of one function
one : (fs : List Shape) (n f h x : ℕ) → f < length fs → h < length fs → entry_at fs n f ≤ x → x < entry_at fs n f + 2 + width (at fs f) → entry_at fs n h ≤ x → x < entry_at fs n h + 2 + width (at fs h) → f ≡ h
one fs n f h x lf lh a b c d =
    let before : f < h → ⊥ = λ l. let k = above fs n f h l lh in omega (arith, k, b, c) in
    let behind : h < f → ⊥ = λ l. let k = above fs n h f l lf in omega (arith, k, a, d) in
    omega (arith, before, behind)

-- the sites of edges
abbrev sites_of : List Edge → List ℕ
sites_of [] = []
sites_of (edge x (Site s) y ∷ es) = s ∷ sites_of es
sites_of (e ∷ es) = sites_of es

sites_append : (es ds : List Edge) → sites_of (es ++ ds) ≡ sites_of es ++ sites_of ds
sites_append [] ds = refl
sites_append (edge x (Site s) y ∷ es) ds = ap (λ t. s ∷ t) (sites_append es ds)
sites_append (e ∷ es) ds = sites_append es ds

sites_each : (a : ℕ) (ps : Parts) (i : ℕ) (ds : List Edge) → sites_of (to_each a ps i ++ ds) ≡ sites_of ds
sites_each a End i ds = refl
sites_each a (Part S ps) i ds = sites_each a ps (i + 1) ds

sites_past : (d : Bool) (a b : ℕ) (ds : List Edge) → sites_of (past_all d a b ++ ds) ≡ sites_of ds
sites_past true a b ds = refl
sites_past false a b ds = refl

mutual
  sites_edges : (S : Shape) (a n : ℕ) (p : Places) → sites_of (edges S a n p) ≡ sites S
  sites_edges (Seq S ps) a n p = sites_append (edges S a (n + count ps) (group p ps n)) (edges_of_parts ps n (n + count ps + width S) p) ∙ ap₂ (λ x y. x ++ y) (sites_edges S a (n + count ps) (group p ps n)) (sites_parts ps n (n + count ps + width S) p)
  sites_edges (Alt S T) a n p = sites_append (edges S a n p) (edges T a (n + width S) p) ∙ ap₂ (λ x y. x ++ y) (sites_edges S a n p) (sites_edges T a (n + width S) p)
  sites_edges (Loop C B P) a n p =
      let c = edges C n (n + 3) (record p { to = n + 1 }) in
      let b = edges B (n + 1) (n + 3 + width C) (body p (n + 2) (p.to) (n + 2)) in
      let s = edges P (n + 2) (n + 3 + width C + width B) (record p { to = n }) in
      sites_append c (b ++ s) ∙ ap₂ (λ x y. x ++ y) (sites_edges C n (n + 3) (record p { to = n + 1 })) (sites_append b s ∙ ap₂ (λ x y. x ++ y) (sites_edges B (n + 1) (n + 3 + width C) (body p (n + 2) (p.to) (n + 2))) (sites_edges P (n + 2) (n + 3 + width C + width B) (record p { to = n })))
  sites_edges (Do B C) a n p =
      let b = edges B n (n + 3) (body p (n + 1) (p.to) (n + 1)) in
      let c = edges C (n + 1) (n + 3 + width B) (record p { to = n + 2 }) in
      sites_append b c ∙ ap₂ (λ x y. x ++ y) (sites_edges B n (n + 3) (body p (n + 1) (p.to) (n + 1))) (sites_edges C (n + 1) (n + 3 + width B) (record p { to = n + 2 }))
  sites_edges (Cases ps d) a n p = sites_each a ps n (past_all d a (p.to) ++ edges_of_parts ps n (n + count ps) (switch p)) ∙ (sites_past d a (p.to) (edges_of_parts ps n (n + count ps) (switch p)) ∙ sites_parts ps n (n + count ps) (switch p))
  sites_edges u a n p = refl

  sites_parts : (ps : Parts) (i n : ℕ) (p : Places) → sites_of (edges_of_parts ps i n p) ≡ sites_of_parts ps
  sites_parts End i n p = refl
  sites_parts (Part S ps) i n p = sites_append (edges S i n (group p ps (i + 1))) (edges_of_parts ps (i + 1) (n + width S) p) ∙ ap₂ (λ x y. x ++ y) (sites_edges S i n (group p ps (i + 1))) (sites_parts ps (i + 1) (n + width S) p)

sites_from : (fs : List Shape) (n : ℕ) → sites_of (edges_from n fs) ≡ flat_map sites fs
sites_from [] n = refl
sites_from (S ∷ fs) n = sites_append (edges S n (n + 2) (ends (n + 1))) (edges_from (n + 2 + width S) fs) ∙ ap₂ (λ x y. x ++ y) (sites_edges S n (n + 2) (ends (n + 1))) (sites_from fs (n + 2 + width S))

-- two calls at one site are one edge
abbrev site_or : Edge → ℕ
site_or (edge x (Site s) y) = s
site_or a = 0

abbrev IsSite : Edge → Type 0
IsSite (edge x (Site s) y) = Unit {0}
IsSite a = ⊥

has_site : (es : List Edge) (s a b : ℕ) → Contains es (edge a (Site s) b) → Contains (sites_of es) s
has_site [] s a b h = absurd (omega (arith, h.1))
has_site (edge x (Site r) y ∷ es) s a b (zero, lt, is) = (0, omega arith, ap site_or is)
has_site (edge x (Site r) y ∷ es) s a b (suc k, lt, is) = is_later r (sites_of es) s (has_site es s a b (k, omega arith, is))
has_site (e ∷ es) s a b (suc k, lt, is) = has_site es s a b (k, omega arith, is)
has_site es s a b (zero, lt, is) = absurd (subst IsSite (sym is) tt)

abbrev Differ : List ℕ → Type 0
Differ ss = AllPairs (λ s r. s ≢ r) ss

one_edge : (es : List Edge) → Differ (sites_of es) → (s a b c d : ℕ) → Contains es (edge a (Site s) b) → Contains es (edge c (Site s) d) → edge a (Site s) b ≡ edge c (Site s) d
one_edge [] pairs s a b c d h k = absurd (omega (arith, h.1))
one_edge (edge x (Site r) y ∷ es) pairs s a b c d (zero, lt, is) (zero, lt2, is2) = sym is ∙ is2
one_edge (edge x (Site r) y ∷ es) pairs s a b c d (zero, lt, is) (suc j, lt2, is2) = absurd (pairs_head (λ s r. s ≢ r) r (sites_of es) pairs s (has_site es s c d (j, omega arith, is2)) (ap site_or is))
one_edge (edge x (Site r) y ∷ es) pairs s a b c d (suc i, lt, is) (zero, lt2, is2) = absurd (pairs_head (λ s r. s ≢ r) r (sites_of es) pairs s (has_site es s a b (i, omega arith, is)) (ap site_or is2))
one_edge (edge x (Site r) y ∷ es) pairs s a b c d (suc i, lt, is) (suc j, lt2, is2) = one_edge es (pairs_tail (λ s r. s ≢ r) r (sites_of es) pairs) s a b c d (i, omega arith, is) (j, omega arith, is2)
one_edge (e ∷ es) pairs s a b c d (suc i, lt, is) (suc j, lt2, is2) = one_edge es pairs s a b c d (i, omega arith, is) (j, omega arith, is2)
one_edge (e ∷ es) pairs s a b c d (suc i, lt, is) (zero, lt2, is2) = absurd (subst IsSite (sym is2) tt)
one_edge es pairs s a b c d (zero, lt, is) k = absurd (subst IsSite (sym is) tt)

module _ (env : Shapes) where
  abbrev fs : List Shape
  fs = env.functions

  abbrev pub entry_of : ℕ → ℕ
  entry_of f = entry_at env.functions 0 f

  abbrev pub g : Graph
  g = record { edge = λ x l y. Contains (edges_from 0 env.functions) (edge x l y); entry = λ f. entry_at env.functions 0 f; exit = λ f. entry_at env.functions 0 f + 1 }

  -- an edge from a node of f is one of f's
  mine : (f x : ℕ) (l : Label) (y : ℕ) → f < length fs → entry_of f ≤ x → x < entry_of f + 2 + width (at fs f) → g.edge x l y → Here fs 0 f x l y
  mine f x l y lt lo hi e =
      let o = one_from fs 0 (edge x l y) e in
      let s = sources (o.here) in
      subst (λ f. Here fs 0 f x l y) (sym (one fs 0 f (o.f) x lt (o.below) lo hi (omega (arith, s)) (omega (arith, s)))) (o.here)

  exit_apart : (f k x : ℕ) → f < length fs → k < length fs → entry_of f ≤ x → x < entry_of f + 2 + width (at fs f) → (x ≡ entry_of f + 1 → ⊥) → x ≡ entry_of k + 1 → ⊥
  exit_apart f k x lf lk lo hi off is = off (is ∙ ap (λ k. entry_of k + 1) (sym (one fs 0 f k x lf lk lo hi (omega (arith, is)) (omega (arith, is)))))

  owns : (f : ℕ) → f < length fs → Owns env g (at fs f) (entry_of f) (entry_of f + 2) (ends (entry_of f + 1))
  owns f lt = record { has = λ x l y e. one_to fs 0 f x l y lt e; only = λ x l y at e. mine f x l y lt (omega (arith, at)) (omega (arith, at)) e; inner = λ x at k lk. exit_apart f k x lt lk (omega (arith, at)) (omega (arith, at)) (λ e. omega (arith, e, at)) }

  pub one_call : AreClosed env → (s a b c d : ℕ) → g.edge a (Site s) b → g.edge c (Site s) d → edge a (Site s) b ≡ edge c (Site s) d
  one_call o s a b c d h k = one_edge (edges_from 0 fs) (subst Differ (sym (sites_from fs 0)) (o.once)) s a b c d h k

  pub laid_from : AreClosed env → LaidFrom env g (λ f. entry_at env.functions 0 f + 2)
  laid_from o = record {
    laid = λ f lt. laid env g (at fs f) (entry_of f) (entry_of f + 2) (ends (entry_of f + 1)) false false (o.bodies f Skip lt) (omega arith) (owns f lt);
    begins = λ f lt. record { edges = λ l b e. begin (mine f (entry_of f) l b lt (omega arith) (omega arith) e) refl (omega arith); inner = λ k lk. exit_apart f k (entry_of f) lt lk (omega arith) (omega arith) (λ e. omega (arith, e)) };
    stops = λ f lt l b e. let s = sources (mine f (entry_of f + 1) l b lt (omega arith) (omega arith) e) in omega (arith, s);
    one_site = λ s a b c d h k. ap goal (one_call o s a b c d h k);
    known = λ s f h. o.known s f h;
    same_exit = λ f h lf lh e. one fs 0 f h (entry_of f + 1) lf lh (omega arith) (omega arith) (omega (arith, e)) (omega (arith, e));
  }
