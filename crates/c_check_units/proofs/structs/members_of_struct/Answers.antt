use Rattle.std.proofs.Common.{sym, ap, ◌∙◌}
use Rattle.c_rules.specs.Scopes.{types_of_struct}
use Rattle.c_check_values.specs.View.{struct_in}
use Rattle.c_tree.specs.View.{ctypes_of}
use Rattle.c_check_units.proofs.StructLemmas.{types_shown}
use Rattle.c_check_units.proofs.structs.members_of_struct.Goals as goal

pub returns-in_ok-types-in-Some : goal.returns-in_ok-types-in-Some
returns-in_ok-types-in-Some c =
    types_shown c.in-Some.members.now (ctypes_of c.in_ok-types-in-Some.types.items) c.in_ok-types-in-Some.ensures ∙ sym (ap types_of_struct (c.members_at.ensures ∙ ap struct_in c.in-Some.is))
