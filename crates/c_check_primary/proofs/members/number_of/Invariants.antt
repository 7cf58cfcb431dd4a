use Rattle.std.proofs.Common.{◌≡◌, drop}
use Rattle.c_rules.specs.Names.{number_among}
use Rattle.c_check_primary.proofs.MemberLemmas.{names, number_from}
use Rattle.c_check_primary.proofs.members.number_of.Given as goal

abbrev pub invariant-loop-i : goal.invariant-loop-i
invariant-loop-i l = number_from l.i (drop l.i l.members) l.name ≡ number_among (names l.members) l.name
