use Rattle.std.proofs.Common.{rules}
use Rattle.c_check_scopes.proofs.TableLemmas.{cells_there, few_cells}
use Rattle.c_check_scopes.proofs.structs.StructTable.have_few_cells.Goals as goal

pub returns : goal.returns
returns c ks there =
    few_cells c.self.inside.structs.items c.args.self.now c.args.place c.cells_kept-kept.result ks c.self.view_is c.self.invariant
    (cells_there c.self.inside.structs.items c.deref.result.now c.args.self.now c.args.place c.cells_kept-kept.result c.deref.ensures.value c.self.view_is c.self.invariant c.cells_kept-kept.ensures) (search rules) there
