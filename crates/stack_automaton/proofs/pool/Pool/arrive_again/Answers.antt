use Rattle.std.proofs.Common.{◌≡◌, ◌⊎◌, Contains, ◌∙◌, refl, sym, subst}
use Rattle.stack_automaton.specs.Standing.{IsKeyOf}
use Rattle.stack_automaton.specs.Seen.{Contents, edges_at}
use Rattle.stack_automaton.specs.Storing.{Grows}
use Rattle.stack_automaton.proofs.GrowingLemmas.{grows_same}
use Rattle.stack_automaton.proofs.MonitorLemmas.{pool_of_grown, arrived_key, arrived_pool}
use Rattle.stack_automaton.proofs.pool.Pool.arrive_again.Goals as goal

pub returns-in-Some-clause-key : goal.returns-in-Some-clause-key
returns-in-Some-clause-key c =
    subst (λ (p : Contents). IsKeyOf c.args.model.now (edges_at p) c.args.self.now.final c.args.begin.keys c.in-Some.key) (sym c.found_again.ensures)
    (subst (λ fs. IsKeyOf c.args.model.now (edges_at c.args.self.now) c.args.self.now.final fs c.in-Some.key) c.as_slice.ensures
    (c.requires.pool.remembered (record { begin = c.as_slice.result.now; key = c.in-Some.key }) c.in-Some.ensures))

pub returns-in-Some-clause-grows : goal.returns-in-Some-clause-grows
returns-in-Some-clause-grows c =
    subst (λ (p : Contents). Grows (edges_at c.args.self.now) (edges_at p)) (sym c.found_again.ensures) (grows_same (edges_at c.args.self.now) (edges_at c.args.self.now) (λ k. refl))

pub settle-requires-clause-there : goal.settle-requires-clause-there
settle-requires-clause-there c = λ b q is. (c.requires.live b q is).0

pub returns-in_err-key-clause-pool : goal.returns-in_err-key-clause-pool
returns-in_err-key-clause-pool c = pool_of_grown c.args.self.now c.settle.new.self c.settle.ensures.grows c.settle.ensures.last c.args.model.now c.settle.ensures.remembered c.requires.pool

pub returns-clause-pool : goal.returns-clause-pool
returns-clause-pool c =
    let same : c.in_ok-facts.facts.items ≡ c.args.begin.keys = c.in_ok-facts.ensures ∙ c.as_slice-2.ensures in
    arrived_pool c.args.self.now c.settle.new.self c.remember.new.self c.args.model.now c.args.begin.keys c.in_ok-key.key c.settle.ensures.grows c.settle.ensures.last c.settle.ensures.remembered c.remember.ensures.entries c.remember.ensures.last
    (λ m has. subst (λ fs. Contains c.settle.new.self.remembered m ⊎ (m ≡ record { begin = fs; key = c.in_ok-key.key })) same (c.remember.ensures.remembered m has))
    c.requires.pool c.requires.live c.in_ok-key.ensures.stored c.in_ok-key.ensures.there

pub returns-clause-key : goal.returns-clause-key
returns-clause-key c =
    let same : c.in_ok-facts.facts.items ≡ c.args.begin.keys = c.in_ok-facts.ensures ∙ c.as_slice-2.ensures in
    arrived_key c.args.self.now c.settle.new.self c.remember.new.self c.args.model.now c.args.begin.keys c.in_ok-key.key c.settle.ensures.grows c.settle.ensures.last c.settle.ensures.remembered c.remember.ensures.entries c.remember.ensures.last
    (λ m has. subst (λ fs. Contains c.settle.new.self.remembered m ⊎ (m ≡ record { begin = fs; key = c.in_ok-key.key })) same (c.remember.ensures.remembered m has))
    c.requires.pool c.requires.live c.in_ok-key.ensures.stored c.in_ok-key.ensures.there
