use Rattle.null_calls_expressions.proofs.WantedLemmas.{with_declarator, without_declarator}
use Rattle.null_calls_expressions.proofs.wanted.is_void.Goals as goal

pub returns-in-Some : goal.returns-in-Some
returns-in-Some c = with_declarator c.args.n.now _ c.in-Some.is

pub returns-in-None : goal.returns-in-None
returns-in-None c = without_declarator c.args.n.now c.is_void_spec.result c.in-None.is c.is_void_spec.ensures
