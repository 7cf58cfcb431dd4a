use Rattle.std.proofs.Common.{◌≡◌, length, arith, ap, ◌∙◌}
use Rattle.c_check_scopes.specs.Functions.{items_of_body}
use Rattle.c_check_scopes.specs.Variables.{names_of_block}
use Rattle.c_syntax.specs.UnitView.{stmt_of}
use Rattle.c_syntax.specs.SeenNames.{seen}
use Rattle.c_check_counts.proofs.NextLemmas.{few_started, first_are, none_first}
use Rattle.c_check_counts.proofs.numbers.first_numbers.Goals as goal

pub returns-then-parameters-len : goal.returns-then-parameters-len
returns-then-parameters-len c =
    none_first c.args.mode (length c.args.parameters.now) c.most_variables.result (items_of_body (stmt_of c.args.body.now)) c.in_ok-names.names.items c.in_ok-names.ensures c.most_variables.ensures.exact (omega (arith, c.if-parameters-len.true, c.len.ensures))

pub returns : goal.returns
returns c =
    let are : seen c.deref.result.now ≡ names_of_block (items_of_body (stmt_of c.args.body.now)) = ap seen c.deref.ensures.value ∙ c.in_ok-names.ensures in
    first_are c.args.mode (length c.args.parameters.now) c.most_variables.result (items_of_body (stmt_of c.args.body.now)) c.numbers_from.result c.deref.result.now are c.most_variables.ensures.exact c.most_variables.ensures.few (omega (arith, c.if-parameters-len.false, c.len.ensures, c.deref.ensures.len)) c.numbers_from.ensures

pub numbers_from-requires : goal.numbers_from-requires
numbers_from-requires c =
    few_started (length c.args.parameters.now) c.deref.result.now (omega (arith, c.if-parameters-len.false, c.len.ensures, c.deref.ensures.len, c.most_variables.ensures.few))
