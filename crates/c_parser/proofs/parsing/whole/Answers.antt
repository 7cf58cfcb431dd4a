use Rattle.c_parser.proofs.UnitLemmas.{spells, has_nodes}
use Rattle.c_parser.proofs.UnitStops.{refused_as_syntax, refused_as_nesting}
use Rattle.c_parser.proofs.parsing.whole.Goals as goal

pub items-requires : goal.items-requires
items-requires c = has_nodes c.args.mode c.most_nodes.ensures

pub returns-in-Ok-clause-spelled : goal.returns-in-Ok-clause-spelled
returns-in-Ok-clause-spelled c = spells c.most_nodes.ensures c.in-Ok.ensures.reads c.in-Ok.ensures.whole

pub returns-in-Err-Syntax-clause-refused : goal.returns-in-Err-Syntax-clause-refused
returns-in-Err-Syntax-clause-refused c = refused_as_syntax _ _ c.args.tokens.now _ _ c.in-Err-Syntax.field-0-is c.place_of_first.ensures c.in-Err-Syntax.ensures.stops

pub returns-in-Err-Nesting-clause-refused : goal.returns-in-Err-Nesting-clause-refused
returns-in-Err-Nesting-clause-refused c = refused_as_nesting c.args.mode c.most_nodes.result _ _ c.args.tokens.now c.in-Err-Nesting.field-0-is c.most_nodes.ensures c.in-Err-Nesting.ensures.nests
