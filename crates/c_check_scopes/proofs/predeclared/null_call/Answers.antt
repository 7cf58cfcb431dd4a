use Rattle.std.proofs.Common.{rules}
use Rattle.c_check_scopes.proofs.CountLemmas.{null_none}
use Rattle.c_check_scopes.proofs.predeclared.null_call.Goals as goal

pub returns : goal.returns
returns c = null_none c.args.name.now (search rules) (search rules)
