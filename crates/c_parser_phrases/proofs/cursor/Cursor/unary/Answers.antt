use Rattle.std.proofs.Common.{arith}
use Rattle.c_syntax_printing.proofs.Begun.{unary_of}
use Rattle.c_parser_phrases.proofs.Lacking.{unary_empty, unary_other, unary_outside}
use Rattle.c_parser_phrases.proofs.cursor.Cursor.unary.Goals as goal

pub returns-clause-stands : goal.returns-clause-stands
returns-clause-stands c = (_, _, c.in-Some.ensures.cases.0, record { kind = c.in-Some-code_of.ensures }, unary_of _ (omega (arith, c.if-code-lt-AMPERSAND.false)) (omega (arith, c.if-code-gt-EXCLAMATION.false)))

pub returns-in_default-clause-stands : goal.returns-in_default-clause-stands
returns-in_default-clause-stands c = unary_empty _ c.in_default.ensures.cases

pub returns-in_default-code_of-clause-stands : goal.returns-in_default-code_of-clause-stands
returns-in_default-code_of-clause-stands c = unary_other c.in-Some.ensures.cases.0 c.in_default-code_of.ensures.1

pub returns-then-code-lt-AMPERSAND-clause-stands : goal.returns-then-code-lt-AMPERSAND-clause-stands
returns-then-code-lt-AMPERSAND-clause-stands c = unary_outside c.in-Some.ensures.cases.0 c.in-Some-code_of.ensures (λ l u. omega (arith, l, c.if-code-lt-AMPERSAND.true))

pub returns-then-code-gt-EXCLAMATION-clause-stands : goal.returns-then-code-gt-EXCLAMATION-clause-stands
returns-then-code-gt-EXCLAMATION-clause-stands c = unary_outside c.in-Some.ensures.cases.0 c.in-Some-code_of.ensures (λ l u. omega (arith, u, c.if-code-gt-EXCLAMATION.true))
