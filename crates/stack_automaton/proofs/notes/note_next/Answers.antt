use Rattle.std.proofs.Common.{rules, ◌≡◌, Some}
use Rattle.std.proofs.lemmas.Result.{on_ok_weaker}
use Rattle.slab.specs.Slab.{get}
use Rattle.dm_base.proofs.AddingLemmas.{adds_same}
use Rattle.stack_automaton.proofs.NotingLemmas.{same_next}
use Rattle.stack_automaton.proofs.notes.note_next.Goals as goal

pub returns-in-Some : goal.returns-in-Some
returns-in-Some c =
    let at : get c.args.states.now c.args.key ≡ Some c.edges.result.now = search rules in
    on_ok_weaker c.note_edges.result (adds_same c.args.noted.now.keys c.note_edges.new.noted.keys _ _ (same_next (get c.args.states.now) c.args.key c.edges.result.now at)) c.note_edges.ensures
