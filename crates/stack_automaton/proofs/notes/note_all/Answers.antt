use Rattle.std.proofs.Common.{◌≡◌, ◌<◌, ◌≤◌, length, get_or, subst}
use Rattle.slab.specs.Slab.{get}
use Rattle.stack_automaton.proofs.NotingLemmas.{noted_none, noted_more, noted_all}
use Rattle.stack_automaton.proofs.notes.note_all.Goals as goal

pub loop-key-init : goal.loop-key-init
loop-key-init c = noted_none (get c.args.states.now) c.args.noted.now.keys

pub loop-key-preserved : goal.loop-key-preserved
loop-key-preserved c =
    let at = c.in-Some.ensures.lookup in
    noted_more (get c.args.states.now) c.args.noted.now.keys c.loop-key.noted.keys c.note_next.new.noted.keys c.loop-key.i c.in-Some.field-0.now
    (subst (λ ks. c.loop-key.i < length ks) c.as_slice.ensures at.3.0) (subst (λ ks. c.in-Some.field-0.now ≡ get_or ks c.loop-key.i c.in-Some.field-0.now) c.as_slice.ensures at.1) c.loop-key.invariant c.in_ok-note_next.ensures

pub returns : goal.returns
returns c = noted_all (get c.args.states.now) c.args.noted.now.keys c.loop-key.noted.keys c.loop-key.i (subst (λ ks. length ks ≤ c.loop-key.i) c.as_slice.ensures c.in_default.ensures.lookup.3) c.loop-key.invariant
