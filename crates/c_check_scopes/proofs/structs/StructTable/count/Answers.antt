use Rattle.std.proofs.Common.{arith}
use Rattle.c_check_scopes.proofs.TableLemmas.{count_shown}
use Rattle.c_check_scopes.proofs.structs.StructTable.count.Goals as goal

pub returns : goal.returns
returns c = count_shown c.self.inside.structs.items c.args.self.now c.len.result c.self.view_is (omega (arith, c.len.ensures, c.self.inside.structs.ok.0))
