use Rattle.line_text.proofs.WordLemmas.{fixed_stands, fixed_is_cut, no_fixed}
use Rattle.std.proofs.Common.{sym, ◌∙◌}
use Rattle.line_text.proofs.cursor.Cursor.take.Goals as goal

pub returns-in-Some-clause-reads : goal.returns-in-Some-clause-reads
returns-in-Some-clause-reads c = let same = c.in-Some.ensures.cases in rw same.1 (fixed_stands c.args.word.now c.args.self.now.rest.now same.0)

pub returns-then-starts_with-clause-reads : goal.returns-then-starts_with-clause-reads
returns-then-starts_with-clause-reads c = fixed_is_cut c.args.word.now c.args.self.now.rest.now c.requires c.in_default.ensures.cases (sym c.starts_with.ensures.value ∙ c.if-starts_with.true)

pub returns-else-starts_with-clause-reads : goal.returns-else-starts_with-clause-reads
returns-else-starts_with-clause-reads c w fits agree = no_fixed c.args.word.now c.args.self.now.rest.now c.in_default.ensures.cases (sym c.starts_with.ensures.value ∙ c.if-starts_with.false) agree
