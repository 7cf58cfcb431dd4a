use Rattle.std.proofs.Common.{ℕ, ◌↔◌, ◌<◌, List, [], ◌∷◌, ◌++◌, length, get_or, ◌+◌, ◌≤◌, refl, arith}
use Rattle.std.proofs.lemmas.Bool.{false≢true}
use Rattle.std.proofs.lemmas.List.Elements.{Contains-get_or}
use Rattle.dm_base.specs.declared.event.Event.{Event}
use Rattle.dm_sets.specs.Nodes.{Has}
use Rattle.flow_model.specs.Cost.{most_steps}
use Rattle.callgraph_monitor.specs.Ahead.{GoesTo}
use Rattle.callgraph_monitor.specs.Standing.{StandsFor}
use Rattle.callgraph_monitor.proofs.Costs.{visit_sum}
use Rattle.callgraph_monitor.proofs.Stands.{stands_after, stands_still}
use Rattle.callgraph_monitor.proofs.monitor.go_on.Given.{Over}
use Rattle.callgraph_monitor.proofs.monitor.go_on.Goals as goal
use Rattle.callgraph_monitor.proofs.monitor.go_on.Goals.{After-fill, After-size-size}

pub returns-then-not-read-clause-stands : goal.returns-then-not-read-clause-stands
returns-then-not-read-clause-stands g c = λ k h stands. stands_still c.args.model.now k h c.args.set.now stands (c.if-not-read.ensures.none (λ on. false≢true on)) c.args.event.now

-- where the event leads
moved : (g : Over) (c : After-fill g) (d : ℕ) → Has c.fill.new.set d ↔ GoesTo c.args.model.now c.args.event.now c.args.set.now d
moved g c d = (
  λ has. (
      let from = c.saturate.ensures.reached d ((c.fill.ensures.has d).0 has) in
      let read = c.read.ensures.only from.0 from.1 in
      (read.0, from.0, read.1, read.2, from.2)
      ),
  λ (a, b, has, ahead, walk). (c.fill.ensures.has d).1 (c.saturate.ensures.closed b d (c.read.ensures.all a b has ahead) walk),
)

stands : (g : Over) (c : After-fill g) (k : ℕ) (h : List Event) → StandsFor c.args.set.now c.args.model.now k h → StandsFor c.fill.new.set c.args.model.now k (h ++ c.args.event.now ∷ [])
stands g c k h before =
    let some = c.if-not-read.ensures.some refl in
    stands_after c.args.model.now k h c.args.set.now before c.args.event.now c.requires.event c.fill.new.set some.0 some.1 (omega (arith, c.fill.ensures.size, c.requires.set)) (moved g c)

cost : (g : Over) (c : After-size-size g) → c.saturate.new.steps ≤ c.args.steps.now + most_steps c.args.model.now
cost g c = omega (arith, c.read.ensures.cost, c.saturate.ensures.cost, visit_sum c.args.model.now c.saturate.new.pool.nodes c.size-size.ensures.found.differ)

pub returns-then-len-eq0-clause-stands : goal.returns-then-len-eq0-clause-stands
returns-then-len-eq0-clause-stands g c = stands g (goal.at.returns-then-len-eq0-clause-stands g c).After-fill

pub returns-then-len-eq0-clause-answer : goal.returns-then-len-eq0-clause-answer
returns-then-len-eq0-clause-answer g c = λ a has. (let there = (c.fill.ensures.has a).0 has in omega (arith, there.1, c.len.ensures.len, c.if-len-eq0.true))

pub returns-then-len-eq0-clause-cost : goal.returns-then-len-eq0-clause-cost
returns-then-len-eq0-clause-cost g c = cost g (goal.at.returns-then-len-eq0-clause-cost g c).After-size-size

pub returns-clause-stands : goal.returns-clause-stands
returns-clause-stands g c = stands g (goal.at.returns-clause-stands g c).After-fill

pub returns-clause-answer : goal.returns-clause-answer
returns-clause-answer g c =
    let nodes = c.saturate.new.pool.nodes in
    let some : 0 < length nodes = omega (arith, c.len.ensures.len, c.if-len-eq0.false) in
    (get_or nodes 0 0, (c.fill.ensures.has (get_or nodes 0 0)).1 (Contains-get_or nodes 0 0 some))

pub returns-clause-cost : goal.returns-clause-cost
returns-clause-cost g c = cost g (goal.at.returns-clause-cost g c).After-size-size
