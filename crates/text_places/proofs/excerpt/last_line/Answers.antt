use Rattle.std.proofs.Common.{get_or}
use Rattle.text_places.specs.Lines.{is_feed}
use Rattle.text_places.proofs.LineLemmas.{last_line_more, begin_within}
use Rattle.text_places.proofs.excerpt.last_line.Goals as goal

pub loop-i-preserved : goal.loop-i-preserved
loop-i-preserved c = record {
  within = rw c.behind_or-begin.ensures (begin_within (is_feed (get_or c.args.bytes.now c.loop-i.i 0)) c.loop-i.i c.loop-i.begin c.loop-i.invariant.within);
  last = rw c.behind_or-begin.ensures (last_line_more c.args.bytes.now c.loop-i.i c.loop-i.begin c.loop-i-test.true c.loop-i.invariant.within c.loop-i.invariant.last);
}
