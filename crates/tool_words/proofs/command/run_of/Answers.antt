use Rattle.std.proofs.Common.{◌≡◌, ℕ, ◌≤◌, List, [], ◌∷◌, decimal}
use Rattle.tool_words.specs.Command.{IsCommandLine}
use Rattle.tool_words.specs.Command.Command.{Run}
use Rattle.tool_words.proofs.command.run_of.Goals as goal

no_run : (word source results : List ℕ) (words : List (List ℕ)) → ((turns : ℕ) → words ≡ decimal turns ∷ [] → turns ≤ 1000000 → ⊥) → (s r : List ℕ) (turns : ℕ) → IsCommandLine (Run s r turns) (word ∷ source ∷ results ∷ words) → ⊥
no_run word source results words none s r turns line =
    let same : words ≡ decimal turns ∷ [] = cc (line.0) in
    none turns same line.1

pub returns-in_err-turns-clause-none : goal.returns-in_err-turns-clause-none
returns-in_err-turns-clause-none c =
    rw c.from_residual.ensures (no_run c.args.word.now c.args.source.now c.args.results.now _ c.in_err-turns.ensures.none)
