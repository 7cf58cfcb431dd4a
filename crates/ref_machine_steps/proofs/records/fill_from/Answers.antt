use Rattle.c_values.specs.Seen.{seen}
use Rattle.ref_machine_steps.proofs.FillLemmas.{stored_inside}
use Rattle.ref_machine_steps.proofs.records.fill_from.Goals as goal

pub next-at-requires : goal.next-at-requires
next-at-requires c = stored_inside (seen c.loop-byte.memory) _ c.loop-byte.at _ c.in_ok-store.ensures.answer
