use Rattle.certify_file.proofs.WritingLemmas.{next_line, so_far}
use Rattle.certify_file.proofs.writing.push_lines.Goals as goal

pub loop-line-preserved : goal.loop-line-preserved
loop-line-preserved c =
    let ls = c.args.lines.now in
    let i = c.loop-line.line-index in
    record {
      is = next_line ls i _ c.args.text.now.items c.loop-line.text.items c.push_line.new.text.items c.loop-line-test.true c.loop-line.invariant.is c.in_ok-push_line.ensures.text;
      small = so_far ls i _ c.loop-line-test.true c.in_ok-push_line.ensures.small c.loop-line.invariant.small;
    }
