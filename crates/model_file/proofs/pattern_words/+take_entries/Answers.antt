use Rattle.sys_table.specs.declared.kinds.ArgKind.TheVariants.{Signed}
use Rattle.model_file.proofs.Narrowing.{reads_err}
use Rattle.model_file.proofs.PatternLemmas.{list_parts}
use Rattle.model_file.proofs.EntryLemmas.{entry_miss, others_miss, entries_stand, none_left}
use Rattle.model_file.proofs.pattern_words.+take_entries.Goals as goal

pub returns-in-Some-clause-reads : goal.returns-in-Some-clause-reads
returns-in-Some-clause-reads t c es fits agree = none_left c.args.kinds.now c.in-Some.field-0 c.args.place c.in_default.len_below es (rw c.in-Some.is at fits)

pub returns-in_err-entry-clause-reads : goal.returns-in_err-entry-clause-reads
returns-in_err-entry-clause-reads t c =
    reads_err _ _ _ _ _ c.from_residual.result c.from_residual.ensures.1 (entry_miss c.args.kinds.now _ _ c.args.last.now c.args.place c.byte_before-end.result c.least_entry.result c.args.cursor.now.rest.now c.take_entry.new.cursor.rest.now c.in_err-entry.field-0.0 (list_parts c.args.kinds.now Signed c.in-len1-up.len_at_least) c.byte_before-end.ensures.value c.least_entry.ensures c.in_err-entry.ensures)

pub returns-in_err-rest-clause-reads : goal.returns-in_err-rest-clause-reads
returns-in_err-rest-clause-reads t c =
    reads_err _ _ _ _ _ c.from_residual-in_err-rest.result c.from_residual-in_err-rest.ensures.1 (others_miss c.args.kinds.now _ _ c.args.last.now c.with_entry.result c.args.place c.byte_before-end.result c.least_entry.result c.in_ok-entry.entry c.args.cursor.now.rest.now c.take_entry.new.cursor.rest.now c.take_entries.new.cursor.rest.now c.in_err-rest.field-0.0 (list_parts c.args.kinds.now Signed c.in-len1-up.len_at_least) c.byte_before-end.ensures.value c.least_entry.ensures c.in_ok-entry.ensures (c.with_entry.ensures.same, c.with_entry.ensures.other) c.in_err-rest.ensures.reads)

pub returns-clause-reads : goal.returns-clause-reads
returns-clause-reads t c =
    rw c.joined.ensures (entries_stand c.args.kinds.now _ _ c.args.last.now c.with_entry.result c.args.place c.byte_before-end.result c.least_entry.result c.in_ok-entry.entry c.in_ok-rest.rest c.args.cursor.now.rest.now c.take_entry.new.cursor.rest.now c.take_entries.new.cursor.rest.now (list_parts c.args.kinds.now Signed c.in-len1-up.len_at_least) c.byte_before-end.ensures.value c.least_entry.ensures c.in_ok-entry.ensures (c.with_entry.ensures.same, c.with_entry.ensures.other) c.in_ok-rest.ensures.reads)
