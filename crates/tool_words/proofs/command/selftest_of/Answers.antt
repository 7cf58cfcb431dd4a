use Rattle.std.proofs.Common.{◌≡◌, ℕ, ◌≤◌, List, [], ◌∷◌, decimal}
use Rattle.tool_words.specs.Command.{IsCommandLine}
use Rattle.tool_words.specs.Command.Command.{Selftest}
use Rattle.tool_words.proofs.command.selftest_of.Goals as goal

no_number : (word number size : List ℕ) → ((n : ℕ) → number ≡ decimal n → n ≤ 4294967295 → ⊥) → (n s : ℕ) → IsCommandLine (Selftest n s) (word ∷ number ∷ size ∷ []) → ⊥
no_number word number size none n s line = let same : number ≡ decimal n = cc (line.0) in none n same line.1

no_size : (word number size : List ℕ) → ((s : ℕ) → size ≡ decimal s → 1 ≤ s → s ≤ 500 → ⊥) → (n s : ℕ) → IsCommandLine (Selftest n s) (word ∷ number ∷ size ∷ []) → ⊥
no_size word number size none n s line = let same : size ≡ decimal s = cc (line.0) in none s same line.2 line.3

pub returns-in_err-drawn-clause-none : goal.returns-in_err-drawn-clause-none
returns-in_err-drawn-clause-none c =
    rw c.from_residual.ensures (no_number c.args.word.now c.args.number.now c.args.size.now c.in_err-drawn.ensures.none)

pub returns-in_err-functions-clause-none : goal.returns-in_err-functions-clause-none
returns-in_err-functions-clause-none c =
    rw c.from_residual-in_err-functions.ensures (no_size c.args.word.now c.args.number.now c.args.size.now c.in_err-functions.ensures.none)
