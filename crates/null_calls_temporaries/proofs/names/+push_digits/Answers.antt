use Rattle.std.proofs.Common.{arith}
use Rattle.null_calls_temporaries.proofs.NameLemmas.{last_digit}
use Rattle.null_calls_temporaries.proofs.names.+push_digits.Goals as goal

pub returns : goal.returns
returns t c = last_digit c.args.most c.args.n _ _ _ _ (omega arith) (omega arith) c.in_ok-push_digits.ensures c.in_ok-push-2.ensures.items (omega arith)
