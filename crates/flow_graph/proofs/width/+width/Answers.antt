use Rattle.std.proofs.Common.{min, ap, ◌∙◌}
use Rattle.flow_graph.specs.View.{shape_of}
use Rattle.flow_graph.proofs.PartsLemmas.{weight, seq_width, cases_width, one_more}
use Rattle.c_meaning.specs.GraphLayout.{width}
use Rattle.flow_graph.proofs.width.+width.Goals as goal

pub width_of-returns-in-Seq : goal.width_of-returns-in-Seq
width_of-returns-in-Seq t c = seq_width c.args.shape.now c.in-Seq.first c.in-Seq.rest c.add.result c.width_of.result c.width_of_parts.result c.args.most c.in-Seq.is c.add.ensures (c.width_of.ensures ∙ ap (λ s. min (width (shape_of s)) c.args.most) c.deref.ensures) (c.width_of_parts.ensures ∙ ap (λ ts. min (weight ts) c.args.most) c.deref-in-Seq.ensures.value)

pub width_of-returns-in-Cases : goal.width_of-returns-in-Cases
width_of-returns-in-Cases t c = cases_width c.args.shape.now c.in-Cases.groups c.in-Cases.field-1 c.width_of_parts-in-Cases.result c.args.most c.in-Cases.is (c.width_of_parts-in-Cases.ensures ∙ ap (λ ts. min (weight ts) c.args.most) c.deref-in-Cases.ensures.value)

pub width_of_parts-loop-i-preserved : goal.width_of_parts-loop-i-preserved
width_of_parts-loop-i-preserved t c = one_more c.args.parts.now c.loop-i.i _ _ c.add-sum.result c.loop-i.sum c.add.result c.width_of.result c.args.most c.loop-i-test.true c.add-sum.ensures c.add.ensures c.width_of.ensures c.index-parts-i.is c.loop-i.invariant
