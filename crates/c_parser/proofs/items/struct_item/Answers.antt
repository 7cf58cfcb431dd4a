use Rattle.std.proofs.Common.{ap, length, arith}
use Rattle.c_parser.proofs.ItemLemmas.{is_struct_item}
use Rattle.c_syntax_printing.specs.Phrases.{any}
use Rattle.c_syntax_printing.specs.Items.{AnItem, InStruct}
use Rattle.c_parser_phrases.specs.Refusing.{bound_of}
use Rattle.c_parser.proofs.StmtStops.{raised, raised_flat, ends_at}
use Rattle.c_parser.proofs.ItemStops.{third_at, struct_unnamed, struct_leads, no_ending}
use Rattle.c_syntax_printing.specs.Opens.{DeepItem}
use Rattle.c_syntax_printing.specs.Deep.{DeepMembers}
use Rattle.c_parser.specs.Nesting.{OpensAs}
use Rattle.c_parser.proofs.ItemGoesOn.{struct_goes_on}
use Rattle.c_parser.proofs.Passing.{passed, passed_flat}
use Rattle.c_parser.proofs.items.struct_item.Goals as goal

pub returns-clause-reads : goal.returns-clause-reads
returns-clause-reads c =
    let w = c.if-not-take_keyword.ensures in let l = c.if-not-take.ensures in let u = c.if-not-take-2.ensures in
    is_struct_item c.place-at.ensures w.2 w.1 c.in_ok-tag.ensures.parses l.2 l.1 c.in_ok-members.ensures.reads u.2 u.1

pub returns-clause-shorter : goal.returns-clause-shorter
returns-clause-shorter c = omega (arith, ap length c.if-not-take_keyword.ensures.2, c.in_ok-tag.ensures.shorter, ap length c.if-not-take.ensures.2, c.in_ok-members.ensures.shorter, ap length c.if-not-take-2.ensures.2)

pub returns-then-not-take_keyword-clause-stops : goal.returns-then-not-take_keyword-clause-stops
returns-then-not-take_keyword-clause-stops c = absurd (c.if-not-take_keyword.ensures.0 c.requires.word)

pub returns-in_err-tag-clause-stops : goal.returns-in_err-tag-clause-stops
returns-in_err-tag-clause-stops c = let w = c.if-not-take_keyword.ensures in raised_flat AnItem (bound_of c.args.room) c.from_residual.result c.in_err-tag.field-0.0 c.from_residual.ensures (λ x r f. struct_unnamed x w.2 w.1 f) c.in_err-tag.ensures.stops

pub returns-then-not-take-clause-stops : goal.returns-then-not-take-clause-stops
returns-then-not-take-clause-stops c = let w = c.if-not-take_keyword.ensures in absurd (c.if-not-take.ensures.0 (third_at w.2 c.in_ok-tag.ensures.parses.stood c.requires))

pub returns-in_err-members-clause-stops : goal.returns-in_err-members-clause-stops
returns-in_err-members-clause-stops c = let w = c.if-not-take_keyword.ensures in let l = c.if-not-take.ensures in raised AnItem InStruct (bound_of c.args.room) _ c.from_residual-in_err-members.result c.in_err-members.field-0.0 c.from_residual-in_err-members.ensures (λ x r f. struct_leads x w.2 w.1 c.in_ok-tag.ensures.parses l.2 l.1 f) c.in_err-members.ensures.stops

pub returns-then-not-take-2-clause-stops : goal.returns-then-not-take-2-clause-stops
returns-then-not-take-2-clause-stops c = let w = c.if-not-take_keyword.ensures in let l = c.if-not-take.ensures in let n = c.if-not-take-2.ensures in
    ends_at n.1 (struct_leads any w.2 w.1 c.in_ok-tag.ensures.parses l.2 l.1 (c.in_ok-members.ensures.leads any _ (no_ending n.0)))

pub returns-in_err-tag-clause-nests : goal.returns-in_err-tag-clause-nests
returns-in_err-tag-clause-nests c =
    let w = c.if-not-take_keyword.ensures in
    passed_flat AnItem (OpensAs DeepItem) c.args.room c.args.cursor.now.rest.now c.from_residual.result c.in_err-tag.field-0.0 c.from_residual.ensures c.in_err-tag.ensures.stops

pub returns-in_err-members-clause-nests : goal.returns-in_err-members-clause-nests
returns-in_err-members-clause-nests c =
    let w = c.if-not-take_keyword.ensures in let l = c.if-not-take.ensures in
    passed AnItem InStruct (OpensAs DeepItem) (OpensAs DeepMembers) c.args.room c.args.room c.from_residual-in_err-members.result c.in_err-members.field-0.0 c.from_residual-in_err-members.ensures
    (λ r f. struct_leads (bound_of c.args.room) w.2 w.1 c.in_ok-tag.ensures.parses l.2 l.1 f)
    (λ at q d. struct_goes_on w.2 w.1 c.in_ok-tag.ensures.parses l.2 l.1 d) c.in_err-members.ensures.nests
