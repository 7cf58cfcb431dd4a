use Rattle.c_lexer.specs.declared.punctuator.TheConstants.{RIGHT_BRACE}
use Rattle.std.proofs.Common.{◌∷◌, ap, sym, ◌∙◌}
use Rattle.c_parser_phrases.proofs.Inits.{list_stops}
use Rattle.c_parser_phrases.proofs.Raising.{at_from}
use Rattle.c_parser_phrases.proofs.RefusalsOfDeclarators.{unclosed}
use Rattle.c_parser_phrases.proofs.cursor.Cursor.goes_on.Goals as goal

pub returns-then-take-clause-parses : goal.returns-then-take-clause-parses
returns-then-take-clause-parses c = list_stops c.take-comma.result c.take-comma.ensures c.if-take.ensures

pub returns-clause-parses : goal.returns-clause-parses
returns-clause-parses c =
    let k = c.if-not-comma.ensures in
    (k.0, k.1, k.2 ∙ ap (λ y. k.0 ∷ y) (sym c.if-take.ensures.1), λ h. c.if-take.ensures.0 (at_from RIGHT_BRACE (sym c.if-take.ensures.1) h))

pub returns-then-not-comma-clause-parses : goal.returns-then-not-comma-clause-parses
returns-then-not-comma-clause-parses c =
    let k = c.if-not-comma.ensures in unclosed k.0 (λ h. c.if-take.ensures.0 (at_from RIGHT_BRACE k.1 h)) (c.if-take.ensures.1 ∙ k.1)
