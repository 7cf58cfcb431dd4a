use Rattle.c_rules.specs.Scopes.{layout_of}
use Rattle.c_check_values.specs.View.{env_of}
use Rattle.c_check_primary.proofs.MemberLemmas.{cell_told}
use Rattle.c_check_primary.proofs.members.cell_at.Goals as goal

pub returns : goal.returns
returns c = cell_told c.first_cell.result (layout_of (env_of c.args.env.now)) c.args.members.now c.args.k c.first_cell.ensures
