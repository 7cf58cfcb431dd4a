use Rattle.tool_reading.proofs.InlineLemmas.{stops_long}
use Rattle.tool_reading.proofs.inline_text.inlined_text.Goals as goal

pub returns-in-Ok-write_model-clause-text : goal.returns-in-Ok-write_model-clause-text
returns-in-Ok-write_model-clause-text c = record {
  inlined = c.in-Ok.inlined;
  has = c.in-Ok.ensures.has;
  is = c.in-Ok-write_model.ensures.text;
  read_back = c.in-Ok-write_model.ensures.formed;
  stack = c.in-Ok.ensures.stack;
  callgraph = c.in-Ok.ensures.callgraph;
}

pub returns-in-Err-TooLarge-clause-stop : goal.returns-in-Err-TooLarge-clause-stop
returns-in-Err-TooLarge-clause-stop c = stops_long c.args.model.now c.in-Ok.inlined c.stop_with.result c.in-Ok.ensures.has (c.in-Err-TooLarge.ensures.long c.in-Err-TooLarge.field-0-is) c.stop_with.ensures
