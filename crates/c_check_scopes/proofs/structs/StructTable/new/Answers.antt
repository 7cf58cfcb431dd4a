use Rattle.c_check_scopes.proofs.LaidLemmas.{laid_none, shown_none}
use Rattle.c_check_scopes.proofs.structs.StructTable.new.Goals as goal

pub invariant_of-result : goal.invariant_of-result
invariant_of-result c = laid_none c.args.count c.in_ok-structs.structs.items c.in_ok-structs.ensures

pub returns : goal.returns
returns c = shown_none c.args.count c.in_ok-structs.structs.items c.in_ok-structs.ensures
