use Rattle.std.proofs.Common.{[], ◌∷◌, ◌++◌, ◌<◌, length, sym, ◌∙◌, ap, append_assoc, arith}
use Rattle.std.proofs.lemmas.Option.{get_or_from_slice_get}
use Rattle.trace_file.specs.EventText.{argument_text, argument_word, HasBytes}
use Rattle.trace_file.proofs.WrittenLists.{written_more, each_more}
use Rattle.trace_file.proofs.event_writing.push_arguments.Goals as goal

pub loop-i-preserved : goal.loop-i-preserved
loop-i-preserved c =
    let argument = c.in-Some.argument.now in
    let within : c.loop-i.i < length c.args.arguments.now = omega (arith, c.loop-i-test.true, c.len-i-end.ensures.len) in
    let is = sym (get_or_from_slice_get c.args.arguments.now c.loop-i.i argument argument (sym c.in-Some.ensures)) in
    let step = c.in_ok-push_bytes.ensures ∙ ap (λ t. t ++ 32 ∷ []) c.in_ok-push_argument.ensures.text ∙ append_assoc c.loop-i.text.items (argument_text argument) (32 ∷ []) in
    record {
      text = written_more c.args.arguments.now c.loop-i.i argument argument_word c.args.text.now.items c.loop-i.text.items c.push_bytes.new.text.items within is c.loop-i.invariant.text step;
      are_bytes = each_more c.args.arguments.now c.loop-i.i argument HasBytes within is c.loop-i.invariant.are_bytes c.in_ok-push_argument.ensures.are_bytes;
    }
