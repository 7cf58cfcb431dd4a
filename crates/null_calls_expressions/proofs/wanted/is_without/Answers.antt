use Rattle.null_calls_expressions.proofs.WantedLemmas.{stays_before}
use Rattle.null_calls_expressions.proofs.wanted.is_without.Goals as goal

pub returns-in_default : goal.returns-in_default
returns-in_default c = stays_before c.args.wanted c.args.op c.args.a.now.at c.args.a.now.kind c.in_default.not-Unary
