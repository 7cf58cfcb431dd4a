use Rattle.c_check_scopes.proofs.SeenLemmas.{few_members}
use Rattle.c_check_scopes.proofs.environment.Environment.have_few_cells.Goals as goal

pub returns : goal.returns
returns c members is = few_members c.args.self.now.structs c.args.s members c.have_few_cells.ensures is
