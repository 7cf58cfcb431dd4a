use Rattle.inline_model.specs.Entries.{HasEntries}
use Rattle.inline_model.proofs.table.all_entries.Given as goal

abbrev pub invariant-loop-place : goal.invariant-loop-place
invariant-loop-place l = HasEntries l.model l.place l.entries.items
