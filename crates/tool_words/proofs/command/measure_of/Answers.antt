use Rattle.std.proofs.Common.{◌≡◌, ℕ, List, [], ◌∷◌}
use Rattle.tool_monitors.specs.declared.asked.Asked.{Asked}
use Rattle.tool_monitors.specs.Monitors.{asked_word}
use Rattle.tool_words.specs.Command.{IsCommandLine}
use Rattle.tool_words.specs.Command.Command.{Measure}
use Rattle.tool_words.proofs.command.measure_of.Goals as goal

no_measure : (word model trace : List ℕ) (words : List (List ℕ)) → ((asked : Asked) → words ≡ asked_word asked ∷ [] → ⊥) → (m t : List ℕ) (asked : Asked) → IsCommandLine (Measure m t asked) (word ∷ model ∷ trace ∷ words) → ⊥
no_measure word model trace words none m t asked line =
    let same : words ≡ asked_word asked ∷ [] = cc line in
    none asked same

pub returns-in_err-asked-clause-none : goal.returns-in_err-asked-clause-none
returns-in_err-asked-clause-none c =
    rw c.from_residual.ensures (no_measure c.args.word.now c.args.model.now c.args.trace.now _ c.in_err-asked.ensures.none)
