use denote.Enum.Bare.{same_false, same_true}
use Rattle.std.proofs.Common.{◌∙◌, sym, arith, rules}
use Rattle.c_parser_phrases.specs.contracts.form.Form.{the_type}
use Rattle.c_parser_phrases.proofs.Lacking.{declarator_none, declarator_constant, declarator_name, declarator_begins}
use Rattle.c_parser_phrases.proofs.cursor.Cursor.no_declarator_pair.Goals as goal

pub returns-then-start-le1-clause-lacks : goal.returns-then-start-le1-clause-lacks
returns-then-start-le1-clause-lacks c = declarator_none (omega (arith, c.start-start.ensures, c.if-start-le1.true))

pub returns-then-start-eq3-clause-lacks : goal.returns-then-start-eq3-clause-lacks
returns-then-start-eq3-clause-lacks c = declarator_constant (sym c.start-start.ensures ∙ c.if-start-eq3.true)

pub returns-then-eq-clause-lacks : goal.returns-then-eq-clause-lacks
returns-then-eq-clause-lacks c = declarator_name (sym c.start-start.ensures ∙ c.if-start-eq5.true) (same_true the_type (search rules) _ _ (sym c.if-eq.ensures))

pub returns-else-eq-clause-lacks : goal.returns-else-eq-clause-lacks
returns-else-eq-clause-lacks c =
    declarator_begins (omega (arith, c.start-start.ensures, c.if-start-le1.false)) (λ e. c.if-start-eq3.false (c.start-start.ensures ∙ e)) (λ e. same_false the_type _ _ (sym c.if-eq.ensures))

pub returns-else-start-eq5-clause-lacks : goal.returns-else-start-eq5-clause-lacks
returns-else-start-eq5-clause-lacks c =
    declarator_begins (omega (arith, c.start-start.ensures, c.if-start-le1.false)) (λ e. c.if-start-eq3.false (c.start-start.ensures ∙ e)) (λ e a. c.if-start-eq5.false (c.start-start.ensures ∙ e))
