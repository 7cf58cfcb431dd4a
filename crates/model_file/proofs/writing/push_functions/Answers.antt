use Rattle.std.proofs.Common.{length, refl}
use Rattle.std.proofs.lemmas.Option.{slice_get_read}
use Rattle.model_file.specs.ModelText.{function_line}
use Rattle.model_file.specs.Writing.{HasSmallNodes}
use Rattle.model_file.proofs.WritingLemmas.{so_far, text_more}
use Rattle.model_file.proofs.writing.push_functions.Goals as goal

pub loop-one-preserved : goal.loop-one-preserved
loop-one-preserved c =
    let functions = c.args.functions.now in
    let i = c.loop-one.one-index in
    let one = c.one-item.result in
    let there = slice_get_read functions (length functions) i one refl c.loop-one-test.true c.one-item.is in
    record {
      text = text_more function_line functions i one c.args.text.now.items c.loop-one.text.items c.push_function.new.text.items c.loop-one-test.true there c.loop-one.invariant.text c.in_ok-push_function.ensures.text;
      small = so_far HasSmallNodes functions i one there c.in_ok-push_function.ensures.small c.loop-one.invariant.small;
    }
