use Rattle.std.proofs.Common.{sym, ap, refl}
use Rattle.std.proofs.lemmas.Result.{err_from_is_err_and}
use Rattle.c_syntax.specs.View.{expr_of}
use Rattle.c_parser_phrases.proofs.Deepest.{node_deep}
use Rattle.c_parser_phrases.proofs.Inits.{place_is}
use Rattle.c_parser_phrases.proofs.nodes.measured.Goals as goal

pub returns-clause-deep : goal.returns-clause-deep
returns-clause-deep c = λ u. node_deep c.enclosed.ensures.height c.enclosed.ensures.around (ap expr_of c.in_ok-new.ensures.ok) (sym (place_is c.args.at c.args.kind)) u

pub returns-in_err-new-clause-makes : goal.returns-in_err-new-clause-makes
returns-in_err-new-clause-makes c = let w = err_from_is_err_and c.from_residual.result c.from_residual.ensures.1 in rw (w.1, w.2) refl
