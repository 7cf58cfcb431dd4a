use Rattle.c_check_declarations.proofs.ObjectLemmas.{init_fails}
use Rattle.c_check_declarations.proofs.definitions.without_init.Goals as goal

pub returns-in-Some : goal.returns-in-Some
returns-in-Some c = init_fails c.args.m.now c.in-Some.i c.in-Some.is
