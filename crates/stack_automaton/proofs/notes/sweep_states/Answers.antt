use Rattle.slab.specs.Slab.{get}
use Rattle.stack_automaton.proofs.NotingLemmas.{swept_more}
use Rattle.stack_automaton.proofs.notes.sweep_states.Goals as goal

pub loop-key-preserved : goal.loop-key-preserved
loop-key-preserved c =
    swept_more (get c.args.states.now) (get c.loop-key.states) (get c.sweep_one.new.states) c.args.noted.now.keys c.args.last c.loop-key.key
    c.sweep_one.ensures.kept c.sweep_one.ensures.others c.sweep_one.ensures.gone c.sweep_one.ensures.fewer c.loop-key.invariant
