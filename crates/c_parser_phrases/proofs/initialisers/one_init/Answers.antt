use Rattle.std.proofs.Common.{ap, sym}
use Rattle.c_syntax.specs.Tree.{one}
use Rattle.c_syntax.specs.View.{expr_of}
use Rattle.c_parser_phrases.proofs.Inits.{place_is}
use Rattle.c_parser_phrases.proofs.initialisers.one_init.Goals as goal

pub returns : goal.returns
returns c = ap (λ x. one x (expr_of c.args.e)) (sym (place_is c.args.e.at c.args.e.kind))
