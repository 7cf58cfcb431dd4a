use Rattle.std.proofs.Common.{sym, ◌∙◌, arith}
use Rattle.c_check_scopes.proofs.CountLemmas.{number_within}
use Rattle.c_check_scopes.proofs.few_names.FewNames.number.Goals as goal

pub overflow_cast-result : goal.overflow_cast-result
overflow_cast-result c = omega (arith, number_within c.self.inside.names c.args.name.now c.in-Some.place (sym c.number.ensures ∙ c.in-Some.is), c.self.invariant)
