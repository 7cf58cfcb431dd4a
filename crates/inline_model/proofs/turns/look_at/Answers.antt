use Rattle.std.proofs.Common.{length, ap, arith}
use Rattle.inline_model.proofs.SearchLemmas.{place_marked}
use Rattle.inline_model.proofs.turns.look_at.Goals as goal

pub mark_at-requires : goal.mark_at-requires
mark_at-requires c =
    let there = c.requires.next.1 in
    let lt = place_marked c.args.model.now c.args.search.now.marks.items there.0 c.args.place c.requires.search.sound.long there.2 in
    omega (arith, lt, ap length c.deref.ensures.value)
