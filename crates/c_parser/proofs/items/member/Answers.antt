use Rattle.std.proofs.Common.{arith}
use Rattle.c_parser.proofs.ItemLemmas.{member_before}
use Rattle.c_syntax_printing.specs.Items.{AMember, DeclaratorsClosed}
use Rattle.c_parser_phrases.specs.Refusing.{bound_of}
use Rattle.c_parser.proofs.StmtStops.{raised, raised_flat}
use Rattle.c_parser.proofs.ItemStops.{declarators_of_member_fail, a_member}
use Rattle.c_syntax_printing.specs.Deep.{DeepMembers, DeepDeclarators}
use Rattle.c_parser.specs.Nesting.{OpensAs}
use Rattle.c_parser.proofs.ItemGoesOn.{member_then}
use Rattle.c_parser.proofs.Passing.{passed, passed_flat}
use Rattle.c_parser.proofs.items.member.Goals as goal
use Rattle.c_syntax_printing.proofs.Combine.{fails_first}
use Rattle.c_syntax_printing.proofs.MemberOpens.{first_member_opens}

pub returns-clause-reads : goal.returns-clause-reads
returns-clause-reads c = record { before = member_before _ c.place-at.ensures c.in_ok-spec.ensures.parses c.in_ok-declarators.ensures.reads }

pub returns-clause-shorter : goal.returns-clause-shorter
returns-clause-shorter c = omega (arith, c.in_ok-spec.ensures.shorter, c.in_ok-declarators.ensures.shorter)

pub returns-in_err-spec-clause-stops : goal.returns-in_err-spec-clause-stops
returns-in_err-spec-clause-stops c = raised_flat AMember (bound_of c.args.room) c.from_residual.result c.in_err-spec.field-0.0 c.from_residual.ensures (λ x r f. fails_first f) c.in_err-spec.ensures.stops

pub returns-in_err-declarators-clause-stops : goal.returns-in_err-declarators-clause-stops
returns-in_err-declarators-clause-stops c = raised AMember DeclaratorsClosed (bound_of c.args.room) _ c.from_residual-in_err-declarators.result c.in_err-declarators.field-0.0 c.from_residual-in_err-declarators.ensures (λ x r f. declarators_of_member_fail x c.in_ok-spec.ensures.parses f) c.in_err-declarators.ensures.stops

pub returns-clause-stands : goal.returns-clause-stands
returns-clause-stands c = a_member c.in_ok-spec.ensures.parses c.in_ok-declarators.ensures.reads

pub returns-in_err-spec-clause-nests : goal.returns-in_err-spec-clause-nests
returns-in_err-spec-clause-nests c =
    passed_flat AMember (OpensAs DeepMembers) c.args.room c.args.cursor.now.rest.now c.from_residual.result c.in_err-spec.field-0.0 c.from_residual.ensures c.in_err-spec.ensures.stops

pub returns-in_err-declarators-clause-nests : goal.returns-in_err-declarators-clause-nests
returns-in_err-declarators-clause-nests c =
    passed AMember DeclaratorsClosed (OpensAs DeepMembers) (OpensAs DeepDeclarators) c.args.room c.args.room c.from_residual-in_err-declarators.result c.in_err-declarators.field-0.0 c.from_residual-in_err-declarators.ensures
    (λ r f. declarators_of_member_fail (bound_of c.args.room) c.in_ok-spec.ensures.parses f)
    (λ at q d. first_member_opens c.in_ok-spec.ensures.parses.reads d) c.in_err-declarators.ensures.nests

pub returns-clause-opens : goal.returns-clause-opens
returns-clause-opens c at n q d = member_then c.in_ok-spec.ensures.parses c.in_ok-declarators.ensures.reads d
