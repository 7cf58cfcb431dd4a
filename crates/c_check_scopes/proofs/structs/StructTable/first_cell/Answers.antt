use Rattle.c_check_scopes.specs.Known.{layout_of}
use Rattle.c_check_scopes.proofs.TableLemmas.{first_there, front_small}
use Rattle.c_check_scopes.proofs.structs.StructTable.first_cell.Goals as goal

pub unreachable-requires : goal.unreachable-requires
unreachable-requires c = c.in-None.ensures (front_small (layout_of c.args.self.now) c.args.members.now c.front.result.now c.args.k c.front.ensures c.requires.few)

pub returns : goal.returns
returns c = first_there (layout_of c.args.self.now) c.args.members.now c.front.result.now c.args.k c.in-Some.first c.front.ensures c.in-Some.ensures.1
