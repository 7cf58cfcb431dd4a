use Rattle.c_check_declarations.proofs.ParameterLemmas.{named_rest}
use Rattle.c_check_declarations.proofs.parameters.+are_named.Goals as goal

pub returns-else-is_none : goal.returns-else-is_none
returns-else-is_none t c =
    named_rest c.args.ps.now c.p-item.result c.name_of_param.result c.is_none.result c.are_named.result c.in-len1-up.len_at_least c.p-item.is c.name_of_param.ensures c.is_none.ensures c.if-is_none.false c.are_named.ensures
