use Rattle.std.proofs.Common.{sym, ◌∙◌, arith}
use Rattle.c_check_primary.proofs.MemberLemmas.{from_first, no_more}
use Rattle.c_check_primary.proofs.members.number_of.Goals as goal

pub loop-i-init : goal.loop-i-init
loop-i-init c = from_first c.args.members.now c.args.name.now

pub returns-clause-told : goal.returns-clause-told
returns-clause-told c = sym (no_more c.args.members.now c.args.name.now c.loop-i.i (omega arith)) ∙ c.loop-i.invariant
