-- For private contracts and proofs alone: members of structs, in Rust as in the rules.
use Rattle.c_check_scopes.specs.declared.structs.StructMember.{StructMember}
use Rattle.c_check_scopes.specs.Shown.{known_of}
use Rattle.c_rules.specs.Scopes.{Member}
use Rattle.c_check_scopes.specs.View.{member_of}

abbrev pub member_seen : StructMember → Member
member_seen m = member_of (known_of m)
