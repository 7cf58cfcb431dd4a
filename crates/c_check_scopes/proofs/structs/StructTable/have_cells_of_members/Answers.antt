use Rattle.c_check_scopes.proofs.TableLemmas.{whole_there}
use Rattle.c_check_scopes.proofs.structs.StructTable.have_cells_of_members.Goals as goal

pub returns : goal.returns
returns c s ks there = whole_there c.self.inside.structs.items c.args.self.now s ks c.self.view_is c.self.invariant there
