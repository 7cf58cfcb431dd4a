use Rattle.c_check_scopes.proofs.TypeLemmas.{none_plain}
use Rattle.c_check_scopes.proofs.predeclared_type.+are_plain.Goals as goal

pub returns-in-empty : goal.returns-in-empty
returns-in-empty t c = none_plain c.args.ts.now c.args.ps.now c.is_empty.result c.in-empty.len_below c.is_empty.ensures
