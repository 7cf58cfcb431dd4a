use Rattle.std.proofs.Common.{ap}
use Rattle.slab.specs.Slab.{get}
use Rattle.stack_automaton.proofs.GrowingLemmas.{grows_same, grows_put}
use Rattle.stack_automaton.proofs.shared.insert.Goals as goal

pub returns-in_err-key-clause-grows : goal.returns-in_err-key-clause-grows
returns-in_err-key-clause-grows c = λ targets. grows_same (get c.args.states.now) (get c.insert.new.self) (λ k. ap (λ s. get s k) c.in_err-key.ensures.err)

pub returns-clause-grows : goal.returns-clause-grows
returns-clause-grows c = grows_put (get c.args.states.now) (get c.insert.new.self) c.in_ok-key.key c.args.state c.in_ok-key.ensures.was_vacant (record { changed = c.in_ok-key.ensures.updates.changed; others = c.in_ok-key.ensures.updates.others })
