use denote.Enum.Bare.{same_false, same_true}
use Rattle.std.proofs.Common.{sym, rules}
use Rattle.c_parser_phrases.specs.contracts.form.Form.{the_type}
use Rattle.c_parser_phrases.proofs.Known.{not_there}
use Rattle.c_parser_phrases.proofs.Lacking.{opens_none, opens_named, opens_other}
use Rattle.c_parser_phrases.proofs.cursor.Cursor.opens.Goals as goal

pub returns-then-not-is_at-clause-stands : goal.returns-then-not-is_at-clause-stands
returns-then-not-is_at-clause-stands c = opens_none c.args.form (not_there c.is_at.result c.if-not-is_at.true c.is_at.ensures.stands)

pub returns-then-eq-clause-stands : goal.returns-then-eq-clause-stands
returns-then-eq-clause-stands c = opens_named c.args.form _ (c.is_at.ensures.stands.0 c.if-not-is_at.false) (same_true the_type (search rules) _ _ (sym c.if-eq.ensures))

pub returns-in-Some-clause-stands : goal.returns-in-Some-clause-stands
returns-in-Some-clause-stands c = opens_other c.args.form c.ends_spec.result (c.is_at.ensures.stands.0 c.if-not-is_at.false) (same_false the_type _ _ (sym c.if-eq.ensures)) c.in-Some.ensures.cases.0 c.ends_spec.ensures.0 (λ e. not_there c.ends_spec.result e c.ends_spec.ensures)
