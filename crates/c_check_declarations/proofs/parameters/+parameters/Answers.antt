use Rattle.std.proofs.Common.{ap, ◌∙◌}
use Rattle.c_check_declarations.proofs.ParameterLemmas.{own_parameters}
use Rattle.c_check_declarations.proofs.parameters.+parameters.Goals as goal
use Rattle.c_syntax.specs.Writes.{params_of}

pub parameters_of-returns-then-stands_alone : goal.parameters_of-returns-then-stands_alone
parameters_of-returns-then-stands_alone t c =
    ap params_of c.as_slice.ensures.value ∙ own_parameters c.args.d.now c.in-Function.inner c.in-Function.params c.stands_alone.result c.in-Function.is c.stands_alone.ensures c.if-stands_alone.true
