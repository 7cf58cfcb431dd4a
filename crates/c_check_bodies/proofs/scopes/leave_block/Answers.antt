use Rattle.std.proofs.Common.{ap, sym}
use Rattle.c_check_bodies.proofs.ScopeLemmas.{block_left}
use Rattle.c_check_bodies.proofs.scopes.leave_block.Goals as goal

pub returns : goal.returns
returns c outer d long deep = block_left outer c.args.env.now c.leave.new.self c.args.depth d (c.leave.ensures d.0 outer.names (ap (λ e. e.names) d.1) long) (sym deep)
