-- Members of Rust as those of the rules.
use Rattle.std.specs.Prelude.{List, map}
use Rattle.c_check_values.specs.StructMember.{StructMember}
use Rattle.c_check_values.specs.Shown.{knowns_of}
use Rattle.c_rules.specs.Scopes.{Member}
use Rattle.c_check_values.specs.View.{member_of}

abbrev pub members_of : List StructMember → List Member
members_of ms = map member_of (knowns_of ms)
