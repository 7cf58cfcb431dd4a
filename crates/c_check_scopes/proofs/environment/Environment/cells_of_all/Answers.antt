use Rattle.c_tree.specs.Layout.{cells_of_all}
use Rattle.c_check_scopes.specs.Shown.{members_types}
use Rattle.c_check_scopes.proofs.SeenLemmas.{number_told}
use Rattle.c_check_scopes.proofs.environment.Environment.cells_of_all.Goals as goal

pub returns : goal.returns
returns c = number_told (λ structs. cells_of_all structs (members_types c.args.members.now)) c.args.self.now.structs c.cells_of_all.result c.cells_of_all.ensures
