use Rattle.std.proofs.Common.{◌≡◌, ◌++◌, ◌∙◌, ap, ap₂, refl, sym, arith, drop, ◌+◌, ◌^◌}
use Rattle.c_meaning.specs.Shape.{Alt, Loop, Do, Cases}
use Rattle.flow_graph.specs.View.{shape_of, parts_of}
use Rattle.flow_graph.specs.Edges.{edges_in, places_of}
use Rattle.c_meaning.specs.GraphLayout.{edges, edges_of_parts, width, count}
use Rattle.flow_graph.proofs.LayingLemmas.{parts_many, of_cases, on_same, next_same, ends_at, alt_laid, loop_laid, do_laid, laid_more, fresh_more, seq_laid, seq_next, rest_nodes, first_fits, rest_fits, cases_fit}
use Rattle.flow_graph.specs.declared.shape.Shape.TheViews.{size-Shape, sized-Seq, sized-Cases}
use Rattle.flow_graph.proofs.laying.+laying.Goals as goal

pub lay-returns-in-Skip-clause-laid : goal.lay-returns-in-Skip-clause-laid
lay-returns-in-Skip-clause-laid t c = on_same c.lay_edge.result (edges_in c.args.into.now.items) (edges_in c.lay_edge.new.into.items) _ _ (ap (λ s. edges (shape_of s) c.args.a c.args.n (places_of c.args.p)) c.in-Skip.is) c.lay_edge.ensures.laid

pub lay-returns-in-Sys-clause-laid : goal.lay-returns-in-Sys-clause-laid
lay-returns-in-Sys-clause-laid t c = on_same c.lay_edge-in-Sys.result (edges_in c.args.into.now.items) (edges_in c.lay_edge-in-Sys.new.into.items) _ _ (ap (λ s. edges (shape_of s) c.args.a c.args.n (places_of c.args.p)) c.in-Sys.is) c.lay_edge-in-Sys.ensures.laid

pub lay-returns-in-Call-clause-laid : goal.lay-returns-in-Call-clause-laid
lay-returns-in-Call-clause-laid t c = on_same c.lay_edge-in-Call.result (edges_in c.args.into.now.items) (edges_in c.lay_edge-in-Call.new.into.items) _ _ (ap (λ s. edges (shape_of s) c.args.a c.args.n (places_of c.args.p)) c.in-Call.is) c.lay_edge-in-Call.ensures.laid

pub lay-returns-in-Break-clause-laid : goal.lay-returns-in-Break-clause-laid
lay-returns-in-Break-clause-laid t c = on_same c.lay_edge-in-Break.result (edges_in c.args.into.now.items) (edges_in c.lay_edge-in-Break.new.into.items) _ _ (ap (λ s. edges (shape_of s) c.args.a c.args.n (places_of c.args.p)) c.in-Break.is) c.lay_edge-in-Break.ensures.laid

pub lay-returns-in-Continue-clause-laid : goal.lay-returns-in-Continue-clause-laid
lay-returns-in-Continue-clause-laid t c = on_same c.lay_edge-in-Continue.result (edges_in c.args.into.now.items) (edges_in c.lay_edge-in-Continue.new.into.items) _ _ (ap (λ s. edges (shape_of s) c.args.a c.args.n (places_of c.args.p)) c.in-Continue.is) c.lay_edge-in-Continue.ensures.laid

pub lay-returns-in-Return-clause-laid : goal.lay-returns-in-Return-clause-laid
lay-returns-in-Return-clause-laid t c = on_same c.lay_edge-in-Return.result (edges_in c.args.into.now.items) (edges_in c.lay_edge-in-Return.new.into.items) _ _ (ap (λ s. edges (shape_of s) c.args.a c.args.n (places_of c.args.p)) c.in-Return.is) c.lay_edge-in-Return.ensures.laid

pub lay-returns-in-Cases-clause-laid : goal.lay-returns-in-Cases-clause-laid
lay-returns-in-Cases-clause-laid t c = on_same c.lay_cases.result (edges_in c.args.into.now.items) (edges_in c.lay_cases.new.into.items) (edges (shape_of c.args.shape.now) c.args.a c.args.n (places_of c.args.p)) (edges (Cases (parts_of c.deref-in-Cases.result.now) c.in-Cases.has_default) c.args.a c.args.n (places_of c.args.p)) (ap (λ S. edges S c.args.a c.args.n (places_of c.args.p)) (of_cases c.args.shape.now c.in-Cases.groups c.in-Cases.has_default c.deref-in-Cases.result.now c.in-Cases.is c.deref-in-Cases.ensures.value)) c.lay_cases.ensures.laid

pub lay-returns-in-Cases-clause-next : goal.lay-returns-in-Cases-clause-next
lay-returns-in-Cases-clause-next t c = next_same c.lay_cases.result c.args.n (width (shape_of c.args.shape.now)) (width (Cases (parts_of c.deref-in-Cases.result.now) c.in-Cases.has_default)) (ap width (of_cases c.args.shape.now c.in-Cases.groups c.in-Cases.has_default c.deref-in-Cases.result.now c.in-Cases.is c.deref-in-Cases.ensures.value)) c.lay_cases.ensures.next

pub lay_parts-loop-k-preserved : goal.lay_parts-loop-k-preserved
lay_parts-loop-k-preserved t c = let s = c.index-parts-k.result in
    record {
      laid =
          ap (λ m. edges_in c.lay.new.into.items ++ edges_of_parts (parts_of (drop (c.loop-k.k + 1) c.args.parts.now)) (c.loop-k.node + 1) m (places_of c.args.p)) c.in_ok-next.ensures.next
          ∙ laid_more c.args.parts.now c.loop-k.k s (edges_in c.args.into.now.items) (edges_in c.loop-k.into.items) (edges_in c.lay.new.into.items) c.args.i c.args.n c.loop-k.node c.loop-k.next (c.loop-k.node + 1) c.end_of-to.result (places_of c.args.p) c.loop-k-test.true c.index-parts-k.is refl c.end_of-to.ensures.some c.end_of-to.ensures.none c.loop-k.invariant.laid c.in_ok-next.ensures.laid;
      fresh = fresh_more c.args.parts.now c.loop-k.k s c.args.n c.loop-k.next c.in_ok-next.next c.loop-k-test.true c.index-parts-k.is c.loop-k.invariant.fresh c.in_ok-next.ensures.next;
      node = omega (arith, c.loop-k.invariant.node);
    }

pub lay-returns-in_ok-next-in-Seq-clause-laid : goal.lay-returns-in_ok-next-in-Seq-clause-laid
lay-returns-in_ok-next-in-Seq-clause-laid t c =
    let from = c.after_each-start.ensures ∙ ap (λ ts. c.args.n + count (parts_of ts)) (c.deref.ensures.value ∙ sym c.deref-in-Seq-2.ensures.value) in
    seq_laid c.args.shape.now c.in-Seq.first c.in-Seq.rest c.deref-in-Seq-2.result.now c.deref-in-Seq.result.now c.in-Seq.is c.deref-in-Seq-2.ensures.value c.deref-in-Seq.ensures c.args.n c.after_each-start.result c.in_ok-next-in-Seq.next from c.in_ok-next-in-Seq.ensures.next
    c.lay_parts.result (edges_in c.args.into.now.items) (edges_in c.lay.new.into.items) (edges_in c.lay_parts.new.into.items) c.args.a c.end_of-to.result (places_of c.args.p)
    (λ h. c.end_of-to.ensures.some (omega (arith, h, c.len.ensures, c.deref-in-Seq-2.ensures.len))) (λ h. c.end_of-to.ensures.none (omega (arith, h, c.len.ensures, c.deref-in-Seq-2.ensures.len)))
    c.in_ok-next-in-Seq.ensures.laid c.lay_parts.ensures.laid

pub lay-returns-in_ok-next-in-Seq-clause-next : goal.lay-returns-in_ok-next-in-Seq-clause-next
lay-returns-in_ok-next-in-Seq-clause-next t c =
    let from = c.after_each-start.ensures ∙ ap (λ ts. c.args.n + count (parts_of ts)) (c.deref.ensures.value ∙ sym c.deref-in-Seq-2.ensures.value) in
    seq_next c.args.shape.now c.in-Seq.first c.in-Seq.rest c.deref-in-Seq-2.result.now c.deref-in-Seq.result.now c.in-Seq.is c.deref-in-Seq-2.ensures.value c.deref-in-Seq.ensures c.args.n c.after_each-start.result c.in_ok-next-in-Seq.next from c.in_ok-next-in-Seq.ensures.next
    c.lay_parts.result c.lay_parts.ensures.next

pub lay-returns-in_ok-next-in-Alt-clause-laid : goal.lay-returns-in_ok-next-in-Alt-clause-laid
lay-returns-in_ok-next-in-Alt-clause-laid t c =
    let S = c.deref-in-Alt.result.now in
    let T = c.deref-in-Alt-2.result.now in
    alt_laid c.lay-in-Alt-2.result (edges_in c.args.into.now.items) (edges_in c.lay-in-Alt.new.into.items) (edges_in c.lay-in-Alt-2.new.into.items) (shape_of c.args.shape.now) (shape_of S) (shape_of T) c.args.a c.args.n c.in_ok-next-in-Alt.next (places_of c.args.p)
    (ap shape_of c.in-Alt.is ∙ ap₂ (λ x y. Alt (shape_of x) (shape_of y)) (sym c.deref-in-Alt.ensures) (sym c.deref-in-Alt-2.ensures))
    c.in_ok-next-in-Alt.ensures.next c.in_ok-next-in-Alt.ensures.laid c.lay-in-Alt-2.ensures.laid

pub lay-returns-in_ok-next-in-Alt-clause-next : goal.lay-returns-in_ok-next-in-Alt-clause-next
lay-returns-in_ok-next-in-Alt-clause-next t c =
    let S = c.deref-in-Alt.result.now in
    let T = c.deref-in-Alt-2.result.now in
    let all : width (shape_of c.args.shape.now) ≡ width (shape_of S) + width (shape_of T) = ap width (ap shape_of c.in-Alt.is ∙ ap₂ (λ x y. Alt (shape_of x) (shape_of y)) (sym c.deref-in-Alt.ensures) (sym c.deref-in-Alt-2.ensures)) in
    let past = c.in_ok-next-in-Alt.ensures.next in
    ends_at c.lay-in-Alt-2.result c.in_ok-next-in-Alt.next c.args.n (width (shape_of T)) (width (shape_of c.args.shape.now)) (omega (arith, all, past)) c.lay-in-Alt-2.ensures.next

pub lay-returns-in_ok-next-in-Loop-2-clause-laid : goal.lay-returns-in_ok-next-in-Loop-2-clause-laid
lay-returns-in_ok-next-in-Loop-2-clause-laid t c =
    let C = c.deref-in-Loop.result.now in
    let B = c.deref-in-Loop-2.result.now in
    let P = c.deref-in-Loop-3.result.now in
    loop_laid c.lay-in-Loop-3.result (edges_in c.args.into.now.items) (edges_in c.add_silent.new.into.items) (edges_in c.add_silent-in-Loop.new.into.items) (edges_in c.lay-in-Loop.new.into.items) (edges_in c.lay-in-Loop-2.new.into.items) (edges_in c.lay-in-Loop-3.new.into.items)
    (shape_of c.args.shape.now) (shape_of C) (shape_of B) (shape_of P) c.args.a c.args.n c.in_ok-next-in-Loop.next c.in_ok-next-in-Loop-2.next (places_of c.args.p)
    (ap shape_of c.in-Loop.is ∙ ap₂ (λ x y. Loop (shape_of x) (shape_of y) (shape_of c.in-Loop.step.value)) (sym c.deref-in-Loop.ensures) (sym c.deref-in-Loop-2.ensures) ∙ ap (λ z. Loop (shape_of C) (shape_of B) (shape_of z)) (sym c.deref-in-Loop-3.ensures))
    c.in_ok-add_silent-in-Loop.ensures c.in_ok-add_silent-in-Loop-2.ensures c.in_ok-next-in-Loop.ensures.laid c.in_ok-next-in-Loop.ensures.next c.in_ok-next-in-Loop-2.ensures.laid c.in_ok-next-in-Loop-2.ensures.next c.lay-in-Loop-3.ensures.laid

pub lay-returns-in_ok-next-in-Do-clause-laid : goal.lay-returns-in_ok-next-in-Do-clause-laid
lay-returns-in_ok-next-in-Do-clause-laid t c =
    let B = c.deref-in-Do.result.now in
    let C = c.deref-in-Do-2.result.now in
    do_laid c.lay-in-Do-2.result (edges_in c.args.into.now.items) (edges_in c.add_silent-in-Do.new.into.items) (edges_in c.add_silent-in-Do-2.new.into.items) (edges_in c.add_silent-in-Do-3.new.into.items) (edges_in c.lay-in-Do.new.into.items) (edges_in c.lay-in-Do-2.new.into.items)
    (shape_of c.args.shape.now) (shape_of B) (shape_of C) c.args.a c.args.n c.in_ok-next-in-Do.next (places_of c.args.p)
    (ap shape_of c.in-Do.is ∙ ap₂ (λ x y. Do (shape_of x) (shape_of y)) (sym c.deref-in-Do.ensures) (sym c.deref-in-Do-2.ensures))
    c.in_ok-add_silent-in-Do.ensures c.in_ok-add_silent-in-Do-2.ensures c.in_ok-add_silent-in-Do-3.ensures c.in_ok-next-in-Do.ensures.laid c.in_ok-next-in-Do.ensures.next c.lay-in-Do-2.ensures.laid

pub lay_parts-overflow_add-following : goal.lay_parts-overflow_add-following
lay_parts-overflow_add-following t c = let many = parts_many c.args.parts.now in omega (arith, many, c.requires.nodes, c.loop-k.invariant.node, c.loop-k-test.true)

pub lay-after_each-start-requires : goal.lay-after_each-start-requires
lay-after_each-start-requires t c = rest_nodes c.args.shape.now c.in-Seq.first c.in-Seq.rest c.deref.result.now c.args.n (2 ^ 32) c.in-Seq.is c.deref.ensures.value c.requires

pub lay-lay-requires : goal.lay-lay-requires
lay-lay-requires t c =
    let whole = ap size-Shape c.in-Seq.is ∙ sized-Seq c.in-Seq.first c.in-Seq.rest in
    let part = ap size-Shape c.deref-in-Seq.ensures in
    let fits = first_fits c.args.shape.now c.in-Seq.first c.in-Seq.rest c.deref.result.now c.args.n (2 ^ 32) c.in-Seq.is c.deref.ensures.value c.requires c.deref-in-Seq.result.now c.after_each-start.result c.deref-in-Seq.ensures c.after_each-start.ensures in
    (omega (arith, part, whole, c.decreases), fits)

pub lay-lay_parts-requires : goal.lay-lay_parts-requires
lay-lay_parts-requires t c =
    let whole = ap size-Shape c.in-Seq.is ∙ sized-Seq c.in-Seq.first c.in-Seq.rest in
    let from = c.after_each-start.ensures ∙ ap (λ ts. c.args.n + count (parts_of ts)) (c.deref.ensures.value ∙ sym c.deref-in-Seq-2.ensures.value) in
    let nodes = rest_nodes c.args.shape.now c.in-Seq.first c.in-Seq.rest c.deref-in-Seq-2.result.now c.args.n (2 ^ 32) c.in-Seq.is c.deref-in-Seq-2.ensures.value c.requires in
    let fresh = rest_fits c.args.shape.now c.in-Seq.first c.in-Seq.rest c.deref-in-Seq-2.result.now c.args.n (2 ^ 32) c.in-Seq.is c.deref-in-Seq-2.ensures.value c.requires c.deref-in-Seq.result.now c.after_each-start.result c.in_ok-next-in-Seq.next c.deref-in-Seq.ensures from c.in_ok-next-in-Seq.ensures.next in
    (rw c.deref-in-Seq-2.ensures.value (omega (arith, whole, c.decreases)), (nodes, fresh))

pub lay-lay_cases-requires : goal.lay-lay_cases-requires
lay-lay_cases-requires t c =
    let whole = ap size-Shape c.in-Cases.is ∙ sized-Cases c.in-Cases.groups c.in-Cases.has_default in
    let fits = cases_fit c.args.shape.now c.in-Cases.groups c.in-Cases.has_default c.deref-in-Cases.result.now c.args.n (2 ^ 32) c.in-Cases.is c.deref-in-Cases.ensures.value c.requires in
    (rw c.deref-in-Cases.ensures.value (omega (arith, whole, c.decreases)), fits)
