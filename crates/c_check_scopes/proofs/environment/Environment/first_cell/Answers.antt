use Rattle.c_tree.specs.Layout.{cells_of_all, first_cell}
use Rattle.c_check_scopes.specs.Shown.{members_types}
use Rattle.c_check_scopes.proofs.SeenLemmas.{few_seen, number_is}
use Rattle.c_check_scopes.proofs.environment.Environment.first_cell.Goals as goal

pub first_cell-requires-clause-few : goal.first_cell-requires-clause-few
first_cell-requires-clause-few c = few_seen (λ structs. cells_of_all structs (members_types c.args.members.now)) c.args.self.now.structs c.requires.few

pub returns : goal.returns
returns c = number_is (λ structs. first_cell structs (members_types c.args.members.now) c.args.k) c.args.self.now.structs c.first_cell.result c.first_cell.ensures
