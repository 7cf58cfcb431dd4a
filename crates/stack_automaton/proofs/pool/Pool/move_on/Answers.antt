use Rattle.std.proofs.Common.{rules, ◌≡◌, ◌<◌, ℕ, length, sym, subst, refl}
use Rattle.stack_automaton.specs.Following.{IsFirst}
use Rattle.stack_automaton.specs.Moving.{LiveAt}
use Rattle.stack_automaton.specs.Seen.{Contents, edges_at}
use Rattle.stack_automaton.specs.Standing.{IsKeyOf}
use Rattle.stack_automaton.specs.Storing.{Grows}
use Rattle.stack_automaton.proofs.GrowingLemmas.{grows_same}
use Rattle.stack_automaton.proofs.StandingLemmas.{none_next, firsts_live, moved}
use Rattle.stack_automaton.proofs.pool.Pool.move_on.Goals as goal

unchanged : (old new : Contents) → new ≡ old → Grows (edges_at old) (edges_at new)
unchanged old new same = subst (λ (p : Contents). Grows (edges_at old) (edges_at p)) (sym same) (grows_same (edges_at old) (edges_at old) (λ k. refl))

pub returns-in_err-facts-clause-grows : goal.returns-in_err-facts-clause-grows
returns-in_err-facts-clause-grows c = unchanged c.args.self.now c.begin_at.new.self c.begin_at.ensures.same

pub returns-then-is_empty-clause-grows : goal.returns-then-is_empty-clause-grows
returns-then-is_empty-clause-grows c = unchanged c.args.self.now c.begin_at.new.self c.begin_at.ensures.same

pub returns-then-is_empty-clause-none : goal.returns-then-is_empty-clause-none
returns-then-is_empty-clause-none c =
    let none : length c.in_ok-facts.facts.keys ≡ 0 = search rules in
    none_next c.args.model.now (edges_at c.args.self.now) c.args.key c.args.event.now c.in_ok-facts.facts.keys none c.in_ok-facts.ensures.leads

pub arrive-requires-clause-live : goal.arrive-requires-clause-live
arrive-requires-clause-live c =
    subst (λ (p : Contents). (b q : ℕ) → IsFirst c.in_ok-facts.facts.keys b q → LiveAt (edges_at p) p.final q) (sym c.begin_at.ensures.same)
    (firsts_live c.args.model.now (edges_at c.args.self.now) c.args.self.now.final c.args.key c.args.event.now c.in_ok-facts.facts.keys c.requires.pool.pool.closed c.requires.there c.requires.live c.in_ok-facts.ensures.leads)

pub returns-clause-moved : goal.returns-clause-moved
returns-clause-moved c =
    let some : 0 < length c.in_ok-facts.facts.keys = search rules in
    moved c.args.model.now (edges_at c.args.self.now) (edges_at c.arrive.new.self) c.args.self.now.final c.args.key c.args.event.now c.in_ok-next.next c.in_ok-facts.facts.keys some c.in_ok-facts.ensures.held c.in_ok-facts.ensures.leads
    (subst (λ (p : Contents). IsKeyOf c.args.model.now (edges_at c.arrive.new.self) p.final c.in_ok-facts.facts.keys c.in_ok-next.next) c.begin_at.ensures.same c.in_ok-next.ensures.key)
