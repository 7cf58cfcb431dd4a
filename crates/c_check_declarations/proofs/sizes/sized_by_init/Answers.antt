use Rattle.std.proofs.Common.{arith}
use Rattle.c_check_declarations.proofs.ObjectLemmas.{list_judged}
use Rattle.c_check_declarations.proofs.sizes.sized_by_init.Goals as goal
use Rattle.c_tree.specs.View.{ctype_of}

pub returns-in-List : goal.returns-in-List
returns-in-List c = list_judged c.args.name (ctype_of c.args.t) c.args.i.now c.in-List.inits c.len.result c.sized_by_count.result c.in-List.is (omega (arith, c.len.ensures, c.in-List.inits.ok.0)) c.sized_by_count.ensures
