use Rattle.std.proofs.Common.{refl, ◌∷◌}
use Rattle.c_parser.proofs.ItemLemmas.{no_tag_stands, tag_stands}
use Rattle.c_syntax_printing.specs.Items.{AnItem}
use Rattle.c_parser_phrases.proofs.Known.{not_there}
use Rattle.c_parser.proofs.StmtStops.{raised_flat}
use Rattle.c_parser.proofs.ItemStops.{enum_untagged, brace_after_tag}
use Rattle.c_syntax_printing.specs.Opens.{DeepItem}
use Rattle.c_parser.specs.Nesting.{OpensAs}
use Rattle.c_parser.proofs.Passing.{passed_flat}
use Rattle.c_parser.proofs.items.maybe_tag.Goals as goal

pub returns-then-is_at-clause-reads : goal.returns-then-is_at-clause-reads
returns-then-is_at-clause-reads c = no_tag_stands refl

pub returns-clause-reads : goal.returns-clause-reads
returns-clause-reads c = tag_stands c.in_ok-tag.ensures.parses

pub returns-then-is_at-clause-braced : goal.returns-then-is_at-clause-braced
returns-then-is_at-clause-braced c t b = c.is_at.ensures.stands.0 c.if-is_at.true

pub returns-clause-braced : goal.returns-clause-braced
returns-clause-braced c t b = brace_after_tag (not_there c.is_at.result c.if-is_at.false c.is_at.ensures.stands) c.in_ok-tag.ensures.parses b

pub returns-in_err-tag-clause-stops : goal.returns-in_err-tag-clause-stops
returns-in_err-tag-clause-stops c b t w = raised_flat AnItem b c.from_residual.result c.in_err-tag.field-0.0 c.from_residual.ensures (λ x r f. enum_untagged x w (not_there c.is_at.result c.if-is_at.false c.is_at.ensures.stands) f) c.in_err-tag.ensures.stops

pub returns-in_err-tag-clause-nests : goal.returns-in_err-tag-clause-nests
returns-in_err-tag-clause-nests c room t = passed_flat AnItem (OpensAs DeepItem) room (t ∷ c.args.cursor.now.rest.now) c.from_residual.result c.in_err-tag.field-0.0 c.from_residual.ensures c.in_err-tag.ensures.stops
