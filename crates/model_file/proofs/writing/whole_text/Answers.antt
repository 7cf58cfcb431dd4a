use Rattle.std.proofs.Common.{ℕ, ◌++◌, ◌∙◌, ap}
use Rattle.model_file.specs.ModelText.{ending}
use Rattle.model_file.proofs.WritingLemmas.{parts}
use Rattle.model_file.proofs.writing.whole_text.Goals as goal

pub returns-clause-text : goal.returns-clause-text
returns-clause-text c =
    parts c.push_ending.new.text.items c.args.model.now c.in_ok-text.text.items c.push_edges.new.text.items c.push_ending.new.text.items c.in_ok-text.ensures.text c.in_ok-push_edges.ensures.text (c.in_ok-push_ending.ensures.text ∙ ap (λ (n : ℕ). c.push_edges.new.text.items ++ ending n) c.start.ensures.start)
