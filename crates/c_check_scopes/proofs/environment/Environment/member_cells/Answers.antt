use Rattle.std.specs.Prelude.{slice_index_or}
use Rattle.c_tree.specs.Layout.{cells, cells_of_all}
use Rattle.c_tree.specs.Tree.{void}
use Rattle.c_check_scopes.specs.Shown.{members_types}
use Rattle.c_check_scopes.proofs.SeenLemmas.{few_seen, number_is}
use Rattle.c_check_scopes.proofs.environment.Environment.member_cells.Goals as goal

pub member_cells-requires-clause-few : goal.member_cells-requires-clause-few
member_cells-requires-clause-few c = few_seen (λ structs. cells_of_all structs (members_types c.args.members.now)) c.args.self.now.structs c.requires.few

pub returns : goal.returns
returns c = number_is (λ structs. cells structs (slice_index_or (members_types c.args.members.now) c.args.k void)) c.args.self.now.structs c.member_cells.result c.member_cells.ensures
