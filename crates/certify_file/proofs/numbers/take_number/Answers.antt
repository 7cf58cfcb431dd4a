use Rattle.std.proofs.Common.{◌≤◌, ◌<◌, ◌^◌, ℕ, arith}
use Rattle.std.proofs.lemmas.Result.{err_from_is_err_and}
use Rattle.line_text.specs.Words.{number_word}
use Rattle.certify_file.proofs.Parts.{stands_same, missed_same}
use Rattle.certify_file.proofs.numbers.take_number.Goals as goal

within : (n : ℕ) → (0 ≤ n) × (n ≤ 4294967295) → n < 2 ^ 32
within n h = omega (arith, h.1)

ends : (n : ℕ) → n < 2 ^ 32 → (0 ≤ n) × (n ≤ 4294967295)
ends n h = (omega arith, omega arith)

pub returns-in_err-number : goal.returns-in_err-number
returns-in_err-number c =
    let rest = c.number.new.self.rest.now in
    let p = err_from_is_err_and c.from_residual.result c.from_residual.ensures.1 in
    rw (p.1, p.2) (missed_same _ _ (number_word c.args.end) within ends c.args.cursor.now.rest.now rest _ c.in_err-number.ensures.reads)

pub returns : goal.returns
returns c = stands_same _ _ (number_word c.args.end) within ends _ _ _ c.in_ok-number.ensures.reads
