use Rattle.std.proofs.Common.{◌≤◌, ◌<◌, ◌^◌, ℕ, ◌++◌, arith}
use Rattle.line_text.specs.Words.{number_word}
use Rattle.trace_file.proofs.Parts.{stands_same, missed_same, reads_err}
use Rattle.trace_file.proofs.lines.take_site.Goals as goal

within : (n : ℕ) → (0 ≤ n) × (n ≤ 4294967295) → n < 2 ^ 32
within n h = omega (arith, h.1)

ends : (n : ℕ) → n < 2 ^ 32 → (0 ≤ n) × (n ≤ 4294967295)
ends n h = (omega arith, omega arith)

pub returns-in_err-site : goal.returns-in_err-site
returns-in_err-site c =
    let rest = c.take_labelled.new.cursor.rest.now in
    reads_err _ _ _ _ _ c.from_residual.result c.from_residual.ensures.1 (missed_same _ _ (λ n. c.args.letter.now ++ number_word 10 n) within ends c.args.cursor.now.rest.now rest _ c.in_err-site.ensures)

pub returns : goal.returns
returns c = stands_same _ _ (λ n. c.args.letter.now ++ number_word 10 n) within ends _ _ _ c.in_ok-site.ensures
