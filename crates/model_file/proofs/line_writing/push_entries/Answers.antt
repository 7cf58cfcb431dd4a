use Rattle.std.proofs.Common.{◌<◌, ◌∷◌, length, arith}
use Rattle.model_file.specs.ModelText.{entry_text}
use Rattle.model_file.proofs.WritingLemmas.{text_more}
use Rattle.model_file.proofs.line_writing.push_entries.Goals as goal

pub loop-i-preserved : goal.loop-i-preserved
loop-i-preserved c =
    let within : c.loop-i.i < length c.args.pattern.now = omega arith in
    text_more (λ entry. 32 ∷ entry_text entry) c.args.pattern.now c.loop-i.i c.get.result c.args.text.now.items c.loop-i.text.items c.push_entry.new.text.items within c.get.ensures c.loop-i.invariant c.in_ok-push_entry.ensures
