use Rattle.c_check_units.proofs.ScopeLemmas.{left}
use Rattle.c_check_units.proofs.scopes.leave.Goals as goal

pub returns : goal.returns
returns c e within counted deep = left c.args.env.now e c.args.count c.args.depth c.leave.new.self c.leave.ensures within counted deep
