use Rattle.c_parser_phrases.specs.Refusing.{bound_of}
use Rattle.c_parser.proofs.ItemStops.{stops_other}
use Rattle.c_syntax_printing.specs.Opens.{DeepItem}
use Rattle.c_parser.specs.Nesting.{OpensAs}
use Rattle.c_parser.proofs.Passing.{passes_other}
use Rattle.c_parser.proofs.items.item.Goals as goal

pub returns-in-Tag-clause-stops : goal.returns-in-Tag-clause-stops
returns-in-Tag-clause-stops c = c.tag_item.ensures.stops (bound_of c.args.room)

pub returns-in-Other-clause-stops : goal.returns-in-Other-clause-stops
returns-in-Other-clause-stops c = stops_other c.args.room _ _ c.other_item.result c.requires c.in-Other.ensures c.other_item.ensures.stops

pub returns-in-Tag-clause-nests : goal.returns-in-Tag-clause-nests
returns-in-Tag-clause-nests c = c.tag_item.ensures.nests c.args.room

pub returns-in-Other-clause-nests : goal.returns-in-Other-clause-nests
returns-in-Other-clause-nests c = passes_other (OpensAs DeepItem) c.args.room _ c.other_item.result c.requires c.in-Other.ensures c.other_item.ensures.nests
