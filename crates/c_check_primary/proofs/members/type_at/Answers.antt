use Rattle.std.proofs.Common.{sym, ap, ◌∙◌, arith}
use Rattle.c_check_values.specs.StructMember.{StructMember}
use Rattle.c_tree.specs.View.{ctype_of}
use Rattle.c_check_primary.proofs.MemberLemmas.{type_is}
use Rattle.c_check_primary.proofs.members.type_at.Goals as goal

pub returns : goal.returns
returns c =
    ap (λ (m : StructMember). ctype_of m.ctype) (sym c.index-members-k.is)
    ∙ type_is c.args.members.now c.args.k c.index-members-k.result (omega arith) c.index-members-k.is
