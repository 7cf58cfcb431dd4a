use Rattle.std.proofs.lemmas.Result.{err_from_is_err_and}
use Rattle.c_syntax_printing.proofs.SpecFails.{consts_fail}
use Rattle.c_parser_phrases.proofs.Known.{not_there}
use Rattle.c_parser_phrases.proofs.Raising.{flat_as, flat_here}
use Rattle.c_parser_phrases.proofs.RefusalsOfSpecifiers.{spec_unended}
use Rattle.c_parser_phrases.proofs.cursor.Cursor.specifiers.Goals as goal

pub returns-in_err-spec-clause-stops : goal.returns-in_err-spec-clause-stops
returns-in_err-spec-clause-stops c = let w = err_from_is_err_and c.from_residual.result c.from_residual.ensures.1 in rw (w.1, w.2) (flat_as c.in_err-spec.ensures.stops (λ r f. consts_fail c.consts.ensures.took f))

pub returns-then-not-ends_spec-clause-stops : goal.returns-then-not-ends_spec-clause-stops
returns-then-not-ends_spec-clause-stops c = flat_here (spec_unended c.consts.ensures.took c.in_ok-spec.ensures.leads c.consts-2.ensures.took c.consts-2.ensures.ends (not_there c.ends_spec.result c.if-not-ends_spec.true c.ends_spec.ensures))
