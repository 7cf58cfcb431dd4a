use Rattle.std.proofs.Common.{ap, length, arith}
use Rattle.c_parser.proofs.ItemLemmas.{is_tag_item}
use Rattle.c_syntax_printing.specs.Items.{AnItem}
use Rattle.c_parser.proofs.StmtStops.{raised_flat}
use Rattle.c_parser.proofs.ItemStops.{third_at, struct_unnamed}
use Rattle.c_syntax_printing.specs.Opens.{DeepItem}
use Rattle.c_parser.specs.Nesting.{OpensAs}
use Rattle.c_parser.proofs.Passing.{passed_flat}
use Rattle.c_parser.proofs.items.tag_item.Goals as goal

pub returns-clause-reads : goal.returns-clause-reads
returns-clause-reads c room =
    let w = c.if-not-take_keyword.ensures in let u = c.if-not-take.ensures in
    is_tag_item c.place-at.ensures w.2 w.1 c.in_ok-tag.ensures.parses u.2 u.1

pub returns-clause-shorter : goal.returns-clause-shorter
returns-clause-shorter c = omega (arith, ap length c.if-not-take_keyword.ensures.2, c.in_ok-tag.ensures.shorter, ap length c.if-not-take.ensures.2)

pub returns-then-not-take_keyword-clause-stops : goal.returns-then-not-take_keyword-clause-stops
returns-then-not-take_keyword-clause-stops c b = absurd (c.if-not-take_keyword.ensures.0 c.requires.word)

pub returns-in_err-tag-clause-stops : goal.returns-in_err-tag-clause-stops
returns-in_err-tag-clause-stops c b = let w = c.if-not-take_keyword.ensures in raised_flat AnItem b c.from_residual.result c.in_err-tag.field-0.0 c.from_residual.ensures (λ x r f. struct_unnamed x w.2 w.1 f) c.in_err-tag.ensures.stops

pub returns-then-not-take-clause-stops : goal.returns-then-not-take-clause-stops
returns-then-not-take-clause-stops c b = let w = c.if-not-take_keyword.ensures in absurd (c.if-not-take.ensures.0 (third_at w.2 c.in_ok-tag.ensures.parses.stood c.requires))

pub returns-in_err-tag-clause-nests : goal.returns-in_err-tag-clause-nests
returns-in_err-tag-clause-nests c room = passed_flat AnItem (OpensAs DeepItem) room c.args.cursor.now.rest.now c.from_residual.result c.in_err-tag.field-0.0 c.from_residual.ensures c.in_err-tag.ensures.stops
