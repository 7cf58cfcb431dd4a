use Rattle.c_check_initialisers.proofs.SlotLemmas.{members_slots}
use Rattle.c_check_initialisers.proofs.slots.members_of_struct.Goals as goal
use Rattle.c_rules.specs.Scopes.{struct_of}
use Rattle.c_check_values.specs.View.{env_of}

pub returns-in_ok-types-in-Some : goal.returns-in_ok-types-in-Some
returns-in_ok-types-in-Some c =
    members_slots (struct_of (env_of c.args.env.now) c.args.s) c.in-Some.members.now c.in_ok-types-in-Some.types.items c.in-Some.ensures c.in_ok-types-in-Some.ensures
