use Rattle.std.proofs.lemmas.Result.{on_ok_weaker}
use Rattle.slab.specs.Slab.{get}
use Rattle.stack_automaton.proofs.NotingLemmas.{led_from}
use Rattle.stack_automaton.proofs.notes.note_from.Goals as goal

pub returns : goal.returns
returns c = on_ok_weaker c.note_all.result (λ all. λ k.
    let led = led_from (get c.args.states.now) c.args.noted.now.keys c.note.new.noted.keys c.args.key c.in_ok-note.ensures k in
    (λ has. led.0 ((all k).0 has), λ is. (all k).1 (led.1 is))) c.note_all.ensures
