use Rattle.c_check_scopes.specs.Shown.{members_types}
use Rattle.c_check_scopes.proofs.TableLemmas.{all_returned}
use Rattle.c_check_scopes.proofs.structs.StructTable.cells_of_all.Goals as goal

pub returns : goal.returns
returns c = all_returned c.self.inside.structs.items c.deref.result.now c.args.self.now (members_types c.args.members.now) c.cells_of_members.result c.deref.ensures.value c.self.view_is c.self.invariant c.cells_of_members.ensures
