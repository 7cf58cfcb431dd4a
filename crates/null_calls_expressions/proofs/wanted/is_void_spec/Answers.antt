use Rattle.null_calls_expressions.proofs.WantedLemmas.{other_spec}
use Rattle.null_calls_expressions.proofs.wanted.is_void_spec.Goals as goal

pub returns-in_default : goal.returns-in_default
returns-in_default c at = other_spec c.args.s.now c.in_default.not-Void at
