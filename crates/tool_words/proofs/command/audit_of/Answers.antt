use Rattle.std.proofs.Common.{◌≡◌, ℕ, ◌≤◌, List, [], ◌∷◌, decimal}
use Rattle.tool_words.specs.Command.{IsCommandLine}
use Rattle.tool_words.specs.Command.Command.{Audit}
use Rattle.tool_words.proofs.command.audit_of.Goals as goal

no_audit : (word source results : List ℕ) (words : List (List ℕ)) → ((turns bound : ℕ) → words ≡ decimal turns ∷ decimal bound ∷ [] → turns ≤ 1000000 → 1 ≤ bound → bound ≤ 65535 → ⊥) → (s r : List ℕ) (turns bound : ℕ) → IsCommandLine (Audit s r turns bound) (word ∷ source ∷ results ∷ words) → ⊥
no_audit word source results words none s r turns bound line =
    let same : words ≡ decimal turns ∷ decimal bound ∷ [] = cc (line.0) in
    none turns bound same line.1 line.2 line.3

pub returns-in_err-turns-clause-none : goal.returns-in_err-turns-clause-none
returns-in_err-turns-clause-none c =
    rw c.from_residual.ensures (no_audit c.args.word.now c.args.source.now c.args.results.now _ c.in_err-turns.ensures.none)
