use Rattle.c_tree.specs.Layout.{cells}
use Rattle.c_tree.specs.View.{ctype_of}
use Rattle.c_check_scopes.proofs.SeenLemmas.{number_told}
use Rattle.c_check_scopes.proofs.environment.Environment.cells.Goals as goal

pub returns : goal.returns
returns c = number_told (λ structs. cells structs (ctype_of c.args.t.now)) c.args.self.now.structs c.cells.result c.cells.ensures
