-- Edges at sites in order are the calls in order.
use Rattle.std.proofs.Common.{◌≡◌, ℕ, zero, suc, List, [], ◌∷◌, map, Contains, refl, sym, ap, ◌∙◌, subst, arith}
use Rattle.std.specs.Ordering.{nat_cmp, ordering_then}
use Rattle.std.specs.declared.cmp.Ordering.{Ordering}
use Rattle.std.specs.declared.cmp.Ordering.TheVariants.{Less, Equal, Greater}
use Rattle.c_meaning.specs.Shape.{Shapes}
use Rattle.c_meaning.specs.Walks.{Silent, System, Site}
use Rattle.flow_graph.specs.declared.sites.SiteEdge.{SiteEdge}
use Rattle.flow_graph.specs.SiteEdges.{site_edges, site_edge_order}
use Rattle.flow_graph.proofs.SiteOrder.{site_edges_tie}
use Rattle.flow_model.specs.Order.{site_order}
use Rattle.flow_model.proofs.OrderLemmas.{numbers_tie}
use Rattle.c_meaning.specs.GraphLayout.{Edge, edge}
use Rattle.c_meaning.specs.GraphOf.{calls, edges_from}
use Rattle.c_meaning.specs.Premises.{AreClosed}
use Rattle.c_meaning.specs.Sorted.{placed, insert, sorted}
use Rattle.c_meaning.proofs.SortedLemmas.{sorted_from}
use Rattle.c_meaning.proofs.Functions.{one_call}
use Rattle.flow_graph.specs.Places.{call_of}
use Rattle.c_meaning.proofs.Members.{is_first, is_later}

module _ {X Y : Type 0} (f : X → Y) (R : X → X → Ordering) (Q : Y → Y → Ordering) where
  placed_map : (o : Ordering) (x y : X) (ys inside : List X) → map f (placed o x y ys inside) ≡ placed o (f x) (f y) (map f ys) (map f inside)
  placed_map Less x y ys inside = refl
  placed_map Equal x y ys inside = refl
  placed_map Greater x y ys inside = refl

  insert_map : (x : X) (ys : List X) → ((y : X) → Contains ys y → R x y ≡ Q (f x) (f y)) → map f (insert R x ys) ≡ insert Q (f x) (map f ys)
  insert_map x [] agree = refl
  insert_map x (y ∷ ys) agree =
      placed_map (R x y) x y ys (insert R x ys)
      ∙ ap (λ o. placed o (f x) (f y) (map f ys) (map f (insert R x ys))) (agree y (is_first y ys))
      ∙ ap (placed (Q (f x) (f y)) (f x) (f y) (map f ys)) (insert_map x ys (λ z h. agree z (is_later y ys z h)))

  sorted_map : (xs : List X) → ((x y : X) → Contains xs x → Contains xs y → R x y ≡ Q (f x) (f y)) → map f (sorted R xs) ≡ sorted Q (map f xs)
  sorted_map [] agree = refl
  sorted_map (x ∷ xs) agree =
      insert_map x (sorted R xs) (λ y h. agree x y (is_first x xs) (is_later x xs y (sorted_from R xs y h)))
      ∙ ap (insert Q (f x)) (sorted_map xs (λ y z h k. agree y z (is_later x xs y h) (is_later x xs z k)))

-- where edges with one site are one edge, their sites alone tell their order
order_is : (x y : SiteEdge) (o : Ordering) → nat_cmp x.site y.site ≡ o → (x.site ≡ y.site → x ≡ y) → site_edge_order x y ≡ nat_cmp x.site y.site
order_is x y Less e same = ap (λ o. ordering_then o (ordering_then (nat_cmp x.from y.from) (nat_cmp x.to y.to))) e ∙ sym e
order_is x y Equal e same = (site_edges_tie x y).1 (same ((numbers_tie x.site y.site).0 e)) ∙ sym e
order_is x y Greater e same = ap (λ o. ordering_then o (ordering_then (nat_cmp x.from y.from) (nat_cmp x.to y.to))) e ∙ sym e

calls_are : (candidates : ℕ → List ℕ) (es : List Edge) → map (call_of candidates) (site_edges es) ≡ calls candidates es
calls_are candidates [] = refl
calls_are candidates (edge a Silent b ∷ es) = calls_are candidates es
calls_are candidates (edge a (System x q) b ∷ es) = calls_are candidates es
calls_are candidates (edge a (Site s) b ∷ es) = ap (λ cs. call_of candidates (record { site = s; from = a; to = b }) ∷ cs) (calls_are candidates es)

among : (es : List Edge) (x : SiteEdge) → Contains (site_edges es) x → Contains es (edge x.from (Site x.site) x.to)
among [] x h = absurd (omega (arith, h.1))
among (edge a Silent b ∷ es) x h = is_later (edge a Silent b) es (edge x.from (Site x.site) x.to) (among es x h)
among (edge a (System n q) b ∷ es) x h = is_later (edge a (System n q) b) es (edge x.from (Site x.site) x.to) (among es x h)
among (edge a (Site s) b ∷ es) x (zero, lt, is) = (0, omega arith, ap (λ (y : SiteEdge). edge y.from (Site y.site) y.to) is)
among (edge a (Site s) b ∷ es) x (suc k, lt, is) = is_later (edge a (Site s) b) es (edge x.from (Site x.site) x.to) (among es x (k, omega arith, is))

abbrev source : Edge → ℕ
source (edge a l b) = a

abbrev target : Edge → ℕ
target (edge a l b) = b

one_edge : (env : Shapes) → AreClosed env → (x y : SiteEdge) → Contains (edges_from 0 env.functions) (edge x.from (Site x.site) x.to) → Contains (edges_from 0 env.functions) (edge y.from (Site y.site) y.to) → x.site ≡ y.site → x ≡ y
one_edge env closed x y h k site =
    let there = subst (λ z. Contains (edges_from 0 env.functions) (edge y.from (Site z) y.to)) (sym site) k in
    let same : edge x.from (Site x.site) x.to ≡ edge y.from (Site x.site) y.to = one_call env closed x.site x.from x.to y.from y.to h there in
    let from : x.from ≡ y.from = ap source same in
    let to : x.to ≡ y.to = ap target same in
    λ i. record { site = site i; from = from i; to = to i }

-- the calls of closed shapes, in order
pub ordered_calls : (env : Shapes) → AreClosed env → map (call_of env.candidates) (sorted site_edge_order (site_edges (edges_from 0 env.functions))) ≡ sorted site_order (calls env.candidates (edges_from 0 env.functions))
ordered_calls env closed =
    let es = edges_from 0 env.functions in
    sorted_map (call_of env.candidates) site_edge_order site_order (site_edges es) (λ x y h k. order_is x y (nat_cmp x.site y.site) refl (one_edge env closed x y (among es x h) (among es y k)))
    ∙ ap (sorted site_order) (calls_are env.candidates es)
