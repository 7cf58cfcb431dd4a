use Rattle.line_text.proofs.IntegerLemmas.{minus_digits}
use Rattle.line_text.proofs.integer.read_negative.Goals as goal

pub returns-in_err-size-clause-none : goal.returns-in_err-size-clause-none
returns-in_err-size-clause-none c = rw c.from_residual.ensures (λ z fits is. let found = minus_digits z c.args.digits.now fits is in c.in_err-size.ensures.none found.0 found.1 found.2 found.3)
