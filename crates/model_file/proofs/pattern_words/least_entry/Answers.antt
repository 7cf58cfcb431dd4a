use Rattle.std.proofs.Common.{sym, ◌∙◌, arith}
use Rattle.std.proofs.lemmas.Bool.{false≢true}
use Rattle.model_file.proofs.PatternLemmas.{least_without, least_past, least_same, least_next}
use Rattle.model_file.proofs.pattern_words.least_entry.Goals as goal

pub returns-in_default : goal.returns-in_default
returns-in_default c = rw c.in_default.is (least_without c.args.others.now c.args.place)

pub returns-then-place-count : goal.returns-then-place-count
returns-then-place-count c = rw c.in-Some.is (least_past c.args.others.now c.in-Some.pattern c.args.place (omega (arith, c.count.ensures.count)))

pub returns-then-has_entries_after : goal.returns-then-has_entries_after
returns-then-has_entries_after c = rw c.in-Some.is (least_same c.args.others.now c.in-Some.pattern c.args.place c.get-entry.result c.get-entry.ensures (c.has_entries_after.ensures.0 c.if-has_entries_after.true))

pub returns-else-has_entries_after : goal.returns-else-has_entries_after
returns-else-has_entries_after c = rw c.in-Some.is (least_next c.args.others.now c.in-Some.pattern c.args.place c.get-entry.result c.next_entry.result c.get-entry.ensures (λ room. false≢true (sym c.if-has_entries_after.false ∙ c.has_entries_after.ensures.1 room)) c.next_entry.ensures)
