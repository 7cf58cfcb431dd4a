use Rattle.c_parser_phrases.proofs.Declaring.{declarator_has, named_shorter}
use Rattle.std.proofs.lemmas.Result.{err_from_is_err_and}
use Rattle.c_syntax_printing.specs.Phrases.{ADeclarator}
use Rattle.c_parser_phrases.proofs.Raising.{told, told_deep, raised}
use Rattle.c_syntax_printing.specs.Opens.{DeepDeclarator}
use Rattle.c_syntax.specs.Grammar.{HasName}
use Rattle.c_parser_phrases.specs.declared.form.Form.TheVariants.{Named}
use Rattle.c_parser_phrases.specs.Reading.{OpensDeclared}
use Rattle.c_parser_phrases.proofs.RefusalsOfDeclarators.{declarator_as, none_named}
use Rattle.c_parser_phrases.proofs.cursor.Cursor.declarator.Goals as goal

pub returns-in-Some-clause-parses : goal.returns-in-Some-clause-parses
returns-in-Some-clause-parses c = declarator_has c.in_ok-whole.whole c.in-Some.inner c.into_inner.result c.in_ok-whole.ensures.parses c.in_ok-whole.ensures.fits c.in-Some.is c.into_inner.ensures

pub returns-in-Some-clause-shorter : goal.returns-in-Some-clause-shorter
returns-in-Some-clause-shorter c = named_shorter c.in_ok-whole.ensures.parses.0 c.in_ok-whole.ensures.parses.2 c.in_ok-whole.ensures.parses.1

pub returns-in_err-whole-clause-stops : goal.returns-in_err-whole-clause-stops
returns-in_err-whole-clause-stops c = let w = err_from_is_err_and c.from_residual.result c.from_residual.ensures.1 in rw (w.1, w.2) (told {A = ADeclarator} {O = OpensDeclared Named} _ (raised c.in_err-whole.ensures.parses (λ b r f. declarator_as b r f) (λ at r o. o)))

pub returns-in-None-clause-stops : goal.returns-in-None-clause-stops
returns-in-None-clause-stops c = absurd (none_named c.in-None.is c.in_ok-whole.ensures.parses.2)

pub returns-in_err-whole-clause-nests : goal.returns-in_err-whole-clause-nests
returns-in_err-whole-clause-nests c = let w = err_from_is_err_and c.from_residual.result c.from_residual.ensures.1 in rw (w.1, w.2) (told_deep {A = ADeclarator} {D = DeepDeclarator HasName} _ (raised c.in_err-whole.ensures.parses (λ b r f. declarator_as b r f) (λ at r o. o)))
