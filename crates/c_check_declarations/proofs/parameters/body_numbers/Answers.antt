use Rattle.c_check_declarations.proofs.ParameterLemmas.{numbers_as}
use Rattle.c_check_declarations.proofs.parameters.body_numbers.Goals as goal
use Rattle.c_rules.specs.Functions.{parameters_of, items_of_body}
use Rattle.c_syntax.specs.UnitView.{stmt_of}
use Rattle.c_syntax.specs.View.{declarator_of}

pub returns : goal.returns
returns c =
    numbers_as c.first_numbers.result c.args.mode c.parameters_of.result.now (parameters_of (declarator_of c.args.d.now)) (items_of_body (stmt_of c.args.body.now)) c.parameters_of.ensures c.first_numbers.ensures
