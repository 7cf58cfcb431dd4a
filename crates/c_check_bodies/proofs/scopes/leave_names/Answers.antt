use Rattle.std.proofs.Common.{ap}
use Rattle.c_check_bodies.proofs.ScopeLemmas.{names_left}
use Rattle.c_check_bodies.proofs.scopes.leave_names.Goals as goal

pub returns : goal.returns
returns c outer d long = names_left outer c.args.env.now c.leave.new.self d (c.leave.ensures d.0 outer.names (ap (λ e. e.names) d.1) long)
