use Rattle.std.proofs.Common.{sym, ◌∙◌}
use Rattle.std.proofs.lemmas.List.{at_drop_all, take_rest}
use Rattle.text_places.specs.Markers.{behind_margin}
use Rattle.text_places.proofs.MarkerLemmas.{margin_more, margin_ends}
use Rattle.text_places.proofs.marker.behind_margin.Goals as goal

pub loop-i-preserved : goal.loop-i-preserved
loop-i-preserved c = margin_more c.args.line.now c.loop-i.i c.loop-i-test.true (sym c.if-not-is_blank.ensures) ∙ c.loop-i.invariant

pub returns-then-not-is_blank : goal.returns-then-not-is_blank
returns-then-not-is_blank c = take_rest c.args.line.now c.loop-i.i ∙ sym (margin_ends c.args.line.now c.loop-i.i c.loop-i-test.true (sym c.if-not-is_blank.ensures)) ∙ c.loop-i.invariant

pub returns : goal.returns
returns c = sym (at_drop_all behind_margin c.args.line.now c.loop-i.i c.loop-i-test.false) ∙ c.loop-i.invariant
