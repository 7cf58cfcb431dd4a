use Rattle.std.proofs.Common.{arith}
use Rattle.c_check_declarations.proofs.ParameterLemmas.{params_long}
use Rattle.c_check_declarations.proofs.scopes.enter_body.Goals as goal
use Rattle.c_rules.specs.Functions.{parameters_of}
use Rattle.c_syntax.specs.View.{declarator_of}

pub declare_parameters-requires : goal.declare_parameters-requires
declare_parameters-requires c =
    omega (arith, c.requires, params_long c.parameters_of.result.now (parameters_of (declarator_of c.args.d.now)) c.parameters_of.ensures)
