use Rattle.tool_monitors.proofs.pair.PairPanel.finish.Goals as goal

pub returns : goal.returns
returns g c = λ g' k h judged.
    record {
      first_status = c.in_ok-before.before.status;
      second_status = c.in_ok-after.after.status;
      first_text = c.in_ok-before.before.text.items;
      second_text = c.in_ok-after.after.text.items;
      first = c.in_ok-before.ensures g' k h judged.0;
      second = c.in_ok-after.ensures g' k h judged.1;
      ends = c.in_ok-both.ensures.status;
      writes = c.in_ok-both.ensures.text;
    }
