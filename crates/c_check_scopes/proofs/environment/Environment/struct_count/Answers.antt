use Rattle.c_check_scopes.proofs.SeenLemmas.{count_seen}
use Rattle.c_check_scopes.proofs.environment.Environment.struct_count.Goals as goal

pub returns : goal.returns
returns c = count_seen c.args.self.now.structs c.count.result c.count.ensures
