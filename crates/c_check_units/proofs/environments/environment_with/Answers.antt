use Rattle.c_check_values.specs.View.{structs_of}
use Rattle.c_check_units.proofs.EnvironmentLemmas.{begins}
use Rattle.c_check_units.proofs.environments.environment_with.Goals as goal

pub returns : goal.returns
returns c =
    begins c.args.mode c.args.defined_functions c.args.objects c.args.struct_tags (structs_of c.in_ok-structs.structs) c.new-names.result c.new-enums.result c.new-functions.result c.new-tags.result c.zero.result
    c.in_ok-structs.ensures c.new-names.ensures c.new-enums.ensures c.new-functions.ensures c.new-tags.ensures c.zero.ensures
