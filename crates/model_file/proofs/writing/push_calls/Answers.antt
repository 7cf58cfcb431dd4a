use Rattle.std.proofs.Common.{length, refl}
use Rattle.std.proofs.lemmas.Option.{slice_get_read}
use Rattle.model_file.specs.ModelText.{call_line}
use Rattle.model_file.specs.Writing.{IsSmallCall}
use Rattle.model_file.proofs.WritingLemmas.{so_far, text_more}
use Rattle.model_file.proofs.writing.push_calls.Goals as goal

pub loop-call-preserved : goal.loop-call-preserved
loop-call-preserved c =
    let calls = c.args.calls.now in
    let i = c.loop-call.call-index in
    let call = c.call-item.result in
    let there = slice_get_read calls (length calls) i call refl c.loop-call-test.true c.call-item.is in
    record {
      text = text_more call_line calls i call c.args.text.now.items c.loop-call.text.items c.push_call.new.text.items c.loop-call-test.true there c.loop-call.invariant.text c.in_ok-push_call.ensures.text;
      small = so_far IsSmallCall calls i call there c.in_ok-push_call.ensures.small c.loop-call.invariant.small;
    }
