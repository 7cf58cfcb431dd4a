use Rattle.std.proofs.Common.{ℕ, take, ◌∙◌, ap}
use Rattle.std.proofs.lemmas.List.{take_min}
use Rattle.tool_texts.proofs.explain_command.checked_part.Goals as goal

pub returns : goal.returns
returns c = ap (λ (n : ℕ). take n c.args.text.now) c.min.ensures ∙ take_min 1048577 c.args.text.now
