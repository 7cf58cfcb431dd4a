use Rattle.std.proofs.Common.{ℕ, List, ◌++◌, length, sym, ◌∙◌, ap, append_assoc, refl}
use Rattle.std.proofs.lemmas.Option.{slice_get_read}
use Rattle.model_file.proofs.WritingLemmas.{next_item}
use Rattle.model_picture.specs.Picture.{call_arrow}
use Rattle.model_picture.proofs.edges.push_calls.Goals as goal

pub loop-call-preserved : goal.loop-call-preserved
loop-call-preserved c =
    let calls = c.args.calls.now in
    let i = c.loop-call.call-index in
    let there = slice_get_read calls (length calls) i c.call-item.result refl c.loop-call-test.true c.call-item.is in
    let step = next_item (call_arrow c.args.functions.now) calls i c.call-item.result c.loop-call-test.true there in
    c.in_ok-push_call.ensures
    ∙ ap (λ (t : List ℕ). t ++ call_arrow c.args.functions.now c.call-item.result) c.loop-call.invariant
    ∙ append_assoc c.args.text.now.items _ _
    ∙ ap (λ (t : List ℕ). c.args.text.now.items ++ t) (sym step)
