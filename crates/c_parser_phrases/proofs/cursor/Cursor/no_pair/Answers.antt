use Rattle.std.proofs.Common.{◌∙◌, sym, arith}
use Rattle.c_parser_phrases.proofs.Lacking.{pair_none, pair_other, pair_begins}
use Rattle.c_parser_phrases.proofs.cursor.Cursor.no_pair.Goals as goal

pub returns-then-start-eq0-clause-lacks : goal.returns-then-start-eq0-clause-lacks
returns-then-start-eq0-clause-lacks c = pair_none (sym c.start-start.ensures ∙ c.if-start-eq0.true)

pub returns-then-start-gt5-clause-lacks : goal.returns-then-start-gt5-clause-lacks
returns-then-start-gt5-clause-lacks c = pair_other (omega (arith, c.start-start.ensures, c.if-start-gt5.true))

pub returns-clause-lacks : goal.returns-clause-lacks
returns-clause-lacks c = pair_begins (λ e. c.if-start-eq0.false (c.start-start.ensures ∙ e)) (omega (arith, c.start-start.ensures, c.if-start-gt5.false))
