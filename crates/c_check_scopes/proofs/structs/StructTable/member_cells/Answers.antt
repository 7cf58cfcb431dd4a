use Rattle.c_check_scopes.specs.Known.{layout_of}
use Rattle.c_check_scopes.proofs.TableLemmas.{own_there, own_small}
use Rattle.c_check_scopes.proofs.structs.StructTable.member_cells.Goals as goal

pub unreachable-requires : goal.unreachable-requires
unreachable-requires c = c.in-None.ensures (own_small (layout_of c.args.self.now) c.args.members.now c.args.k c.index-members-k.result c.requires.within c.requires.few)

pub returns : goal.returns
returns c = own_there (layout_of c.args.self.now) c.args.members.now c.args.k c.in-Some.cells c.index-members-k.result c.requires.within c.in-Some.ensures.1
