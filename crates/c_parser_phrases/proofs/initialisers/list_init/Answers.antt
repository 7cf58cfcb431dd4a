use Rattle.c_syntax.proofs.NodeRows.{list_is}
use Rattle.c_parser_phrases.proofs.initialisers.list_init.Goals as goal

pub returns : goal.returns
returns c = list_is c.args.at c.args.inits
