use Rattle.c_check_units.proofs.MainLemmas.{some_are}
use Rattle.c_check_units.proofs.mains.are_none.Goals as goal

pub returns-in_default : goal.returns-in_default
returns-in_default c = some_are c.args.ts.now c.in_default.len_at_least
