use Rattle.c_rules.specs.Scopes.{layout_of}
use Rattle.c_check_values.specs.View.{env_of}
use Rattle.c_check_primary.proofs.MemberLemmas.{cells_told}
use Rattle.c_check_primary.proofs.members.cells_at.Goals as goal

pub returns : goal.returns
returns c = cells_told c.member_cells.result (layout_of (env_of c.args.env.now)) c.args.members.now c.args.k c.member_cells.ensures
