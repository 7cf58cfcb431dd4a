use Rattle.std.proofs.Common.{◌≡◌, ℕ, ◌≤◌, ◌<◌, ◌^◌, List, decimal, ◌∙◌, arith}
use Rattle.tool_words.proofs.command.number_of.Goals as goal

no_number : (word bytes : List ℕ) → bytes ≡ word → ((n : ℕ) → n < 2 ^ 32 → bytes ≡ decimal n → ⊥) → (n : ℕ) → word ≡ decimal n → n ≤ 4294967295 → ⊥
no_number word bytes same none n is few = none n (omega (arith, few)) (same ∙ is)

pub returns-in_err-number-clause-none : goal.returns-in_err-number-clause-none
returns-in_err-number-clause-none c =
    rw c.from_residual.ensures (no_number c.args.word.now c.as_bytes.result.now c.as_bytes.ensures.value c.in_err-number.ensures.none)
