use Rattle.std.proofs.Common.{ℕ, ◌<◌, List, ◌∷◌, ◌++◌, length, sym, ◌∙◌, ap, append_assoc, arith}
use Rattle.model_file.specs.ModelText.{entry_text}
use Rattle.model_file.proofs.WritingLemmas.{next_item}
use Rattle.expected_events.proofs.writing.push_entries.Goals as goal

pub loop-i-preserved : goal.loop-i-preserved
loop-i-preserved c =
    let within : c.loop-i.i < length c.args.pattern.now = omega arith in
    let step = next_item (λ entry. 32 ∷ entry_text entry) c.args.pattern.now c.loop-i.i c.get.result within c.get.ensures in
    c.in_ok-push_entry.ensures
    ∙ ap (λ (t : List ℕ). t ++ 32 ∷ entry_text c.get.result) c.loop-i.invariant
    ∙ append_assoc c.args.text.now.items _ _
    ∙ ap (λ (t : List ℕ). c.args.text.now.items ++ t) (sym step)
