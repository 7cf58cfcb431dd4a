use Rattle.c_check_scopes.proofs.TableLemmas.{cells_there}
use Rattle.c_check_scopes.proofs.structs.StructTable.struct_cells.Goals as goal

pub returns : goal.returns
returns c = cells_there c.self.inside.structs.items c.deref.result.now c.args.self.now c.args.place c.cells_kept.result c.deref.ensures.value c.self.view_is c.self.invariant c.cells_kept.ensures
