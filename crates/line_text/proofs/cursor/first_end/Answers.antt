use Rattle.line_text.proofs.WordLemmas.{IsPlain-more}
use Rattle.line_text.proofs.cursor.first_end.Goals as goal

pub loop-i-preserved : goal.loop-i-preserved
loop-i-preserved c = IsPlain-more c.args.text.now c.loop-i.i c.loop-i-test.true c.loop-i.invariant c.if-b-eq32.false c.if-b-eq10.false
