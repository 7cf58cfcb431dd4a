use Rattle.inline_model.proofs.EntryLemmas.{entries_sorted}
use Rattle.inline_model.proofs.table.openings.Goals as goal

pub returns : goal.returns
returns c = entries_sorted c.args.model.now c.in_ok-entries.entries.items c.in_order.new.items.items c.in_ok-entries.ensures c.in_order.ensures.rise c.in_order.ensures.from c.in_order.ensures.all
