use Rattle.c_check_scopes.proofs.SeenLemmas.{whole_seen}
use Rattle.c_check_scopes.proofs.environment.Environment.have_cells_of_members.Goals as goal

pub returns : goal.returns
returns c s ms is = whole_seen c.args.self.now.structs s ms (c.have_cells_of_members.ensures s) is
