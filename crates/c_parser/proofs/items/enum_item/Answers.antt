use Rattle.std.proofs.Common.{ap, length, arith}
use Rattle.c_parser.proofs.ItemLemmas.{is_enum_item, tag_no_longer}
use Rattle.c_syntax_printing.specs.Phrases.{any}
use Rattle.c_syntax_printing.specs.Items.{AnItem, InEnum}
use Rattle.c_parser_phrases.specs.Refusing.{bound_of}
use Rattle.c_syntax_printing.proofs.Combine.{fails_at}
use Rattle.c_parser.proofs.StmtStops.{raised, ends_at}
use Rattle.c_parser.proofs.ItemStops.{no_ending, begins_from, enum_leads}
use Rattle.c_syntax_printing.specs.Opens.{DeepItem}
use Rattle.c_syntax_printing.specs.Deep.{DeepEnumerators}
use Rattle.c_parser.specs.Nesting.{OpensAs}
use Rattle.c_parser.proofs.StmtGoesOn.{opens_at}
use Rattle.c_parser.proofs.ItemGoesOn.{enum_goes_on}
use Rattle.c_parser.proofs.Passing.{passed}
use Rattle.c_parser.proofs.items.enum_item.Goals as goal

pub returns-clause-reads : goal.returns-clause-reads
returns-clause-reads c =
    let w = c.if-not-take_keyword.ensures in let l = c.if-not-take.ensures in let u = c.if-not-take-2.ensures in
    is_enum_item c.place-at.ensures w.2 w.1 c.in_ok-tag.ensures.reads l.2 l.1 c.in_ok-list.ensures.reads u.2 u.1

pub returns-clause-shorter : goal.returns-clause-shorter
returns-clause-shorter c =
    let w = c.if-not-take_keyword.ensures in let l = c.if-not-take.ensures in let u = c.if-not-take-2.ensures in
    omega (arith, ap length w.2, tag_no_longer c.in_ok-tag.ensures.reads, ap length l.2, c.in_ok-list.ensures.shorter, ap length u.2)

pub returns-then-not-take_keyword-clause-stops : goal.returns-then-not-take_keyword-clause-stops
returns-then-not-take_keyword-clause-stops c = absurd (c.if-not-take_keyword.ensures.0 c.requires.word)

pub returns-in_err-tag-clause-stops : goal.returns-in_err-tag-clause-stops
returns-in_err-tag-clause-stops c = let w = c.if-not-take_keyword.ensures in raised AnItem AnItem (bound_of c.args.room) _ c.from_residual.result c.in_err-tag.field-0.0 c.from_residual.ensures (λ x r f. fails_at w.2 f) (c.in_err-tag.ensures.stops (bound_of c.args.room) w.0 w.1)

pub returns-then-not-take-clause-stops : goal.returns-then-not-take-clause-stops
returns-then-not-take-clause-stops c = let w = c.if-not-take_keyword.ensures in absurd (c.if-not-take.ensures.0 (c.in_ok-tag.ensures.braced w.0 (begins_from w.2 c.requires)))

pub returns-in_err-list-clause-stops : goal.returns-in_err-list-clause-stops
returns-in_err-list-clause-stops c = let w = c.if-not-take_keyword.ensures in let l = c.if-not-take.ensures in raised AnItem InEnum (bound_of c.args.room) _ c.from_residual-in_err-list.result c.in_err-list.field-0.0 c.from_residual-in_err-list.ensures (λ x r f. enum_leads x w.2 w.1 c.in_ok-tag.ensures.reads l.2 l.1 f) c.in_err-list.ensures.stops

pub returns-then-not-take-2-clause-stops : goal.returns-then-not-take-2-clause-stops
returns-then-not-take-2-clause-stops c = let w = c.if-not-take_keyword.ensures in let l = c.if-not-take.ensures in let n = c.if-not-take-2.ensures in
    ends_at n.1 (enum_leads any w.2 w.1 c.in_ok-tag.ensures.reads l.2 l.1 (c.in_ok-list.ensures.leads any _ (no_ending n.0)))

pub returns-in_err-tag-clause-nests : goal.returns-in_err-tag-clause-nests
returns-in_err-tag-clause-nests c =
    let w = c.if-not-take_keyword.ensures in
    passed AnItem AnItem (OpensAs DeepItem) (OpensAs DeepItem) c.args.room c.args.room c.from_residual.result c.in_err-tag.field-0.0 c.from_residual.ensures
    (λ r f. fails_at w.2 f)
    (λ at q d. opens_at w.2 d) (c.in_err-tag.ensures.nests c.args.room w.0)

pub returns-in_err-list-clause-nests : goal.returns-in_err-list-clause-nests
returns-in_err-list-clause-nests c =
    let w = c.if-not-take_keyword.ensures in let l = c.if-not-take.ensures in
    passed AnItem InEnum (OpensAs DeepItem) (OpensAs DeepEnumerators) c.args.room c.args.room c.from_residual-in_err-list.result c.in_err-list.field-0.0 c.from_residual-in_err-list.ensures
    (λ r f. enum_leads (bound_of c.args.room) w.2 w.1 c.in_ok-tag.ensures.reads l.2 l.1 f)
    (λ at q d. enum_goes_on w.2 w.1 c.in_ok-tag.ensures.reads l.2 l.1 d) c.in_err-list.ensures.nests
