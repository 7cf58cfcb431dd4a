use Rattle.std.proofs.Common.{sym, ◌∙◌}
use Rattle.text_places.proofs.LineLemmas.{first_line_more, first_line_ends, first_line_all}
use Rattle.text_places.proofs.excerpt.first_line.Goals as goal

pub loop-i-preserved : goal.loop-i-preserved
loop-i-preserved c = c.loop-i.invariant ∙ first_line_more c.args.bytes.now c.loop-i.i c.loop-i-test.true c.if-b-eq10.false

pub returns-then-b-eq10 : goal.returns-then-b-eq10
returns-then-b-eq10 c = sym (c.loop-i.invariant ∙ first_line_ends c.args.bytes.now c.loop-i.i c.loop-i-test.true c.if-b-eq10.true)

pub returns : goal.returns
returns c = sym (c.loop-i.invariant ∙ first_line_all c.args.bytes.now c.loop-i.i c.loop-i-test.false)
