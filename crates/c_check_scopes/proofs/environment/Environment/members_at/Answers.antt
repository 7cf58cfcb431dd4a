use Rattle.c_check_scopes.proofs.SeenLemmas.{struct_told}
use Rattle.c_check_scopes.proofs.environment.Environment.members_at.Goals as goal

pub returns : goal.returns
returns c = struct_told c.args.self.now.structs c.args.place c.members.result c.members.ensures
