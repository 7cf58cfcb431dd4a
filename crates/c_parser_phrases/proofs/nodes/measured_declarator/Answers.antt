use Rattle.std.proofs.Common.{inr, ap, refl}
use Rattle.std.proofs.lemmas.Result.{err_from_is_err_and}
use Rattle.c_syntax.specs.View.{declarator_of}
use Rattle.c_parser_phrases.proofs.Deepest.{node_deep_declarator}
use Rattle.c_parser_phrases.proofs.Rows.{kind_there, place_is_declarator}
use Rattle.c_parser_phrases.proofs.nodes.measured_declarator.Goals as goal

pub returns-clause-deep : goal.returns-clause-deep
returns-clause-deep c = λ u. inr (node_deep_declarator c.enclosed.ensures.height c.enclosed.ensures.around (ap declarator_of c.in_ok-new.ensures.ok) (kind_there c.args.at c.args.kind) (place_is_declarator c.args.at c.args.kind) u)

pub returns-in_err-new-clause-makes : goal.returns-in_err-new-clause-makes
returns-in_err-new-clause-makes c = let w = err_from_is_err_and c.from_residual.result c.from_residual.ensures.1 in rw (w.1, w.2) refl
