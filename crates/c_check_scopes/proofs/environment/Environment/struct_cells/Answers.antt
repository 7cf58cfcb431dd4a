use Rattle.c_tree.specs.Layout.{cells}
use Rattle.c_tree.specs.Tree.{struct}
use Rattle.c_check_scopes.proofs.SeenLemmas.{number_is}
use Rattle.c_check_scopes.proofs.environment.Environment.struct_cells.Goals as goal

pub returns : goal.returns
returns c = number_is (λ structs. cells structs (struct c.args.place)) c.args.self.now.structs c.struct_cells.result c.struct_cells.ensures
