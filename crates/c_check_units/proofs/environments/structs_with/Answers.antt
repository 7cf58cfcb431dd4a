use Rattle.std.proofs.Common.{length}
use Rattle.c_check_units.proofs.EnvironmentLemmas.{structs_as}
use Rattle.c_check_units.proofs.environments.structs_with.Goals as goal

pub returns : goal.returns
returns c = structs_as c.new.result c.len.result (length c.args.tags.now) c.len.ensures.is c.new.ensures
