use Rattle.std.proofs.Common.{◌≡◌, ◌≤◌, nat_lt, Contains, ap, ◌∙◌, subst, inl, inr, arith}
use Rattle.std.proofs.lemmas.Bool.{cases_lt, ltb-true, lt-ltb}
use Rattle.flow_model.specs.declared.records.SysEdge.{SysEdge}
use Rattle.flow_model.specs.Found.{Found}
use Rattle.callgraph_monitor.specs.Ahead.{IsAhead}
use Rattle.callgraph_monitor.proofs.Costs.{below_and_at, filter-few}
use Rattle.flow_model.proofs.Grown.{adds-still, adds-cases}
use Rattle.callgraph_monitor.proofs.reading.read.Goals as goal

pub loop-node-init : goal.loop-node-init
loop-node-init g c = record {
  size = ap (λ (f : Found). f.size) c.clear.ensures ∙ c.requires.pool;
  within = omega arith;
  only = λ b has. absurd (let there = subst (λ xs. Contains xs b) (ap (λ (f : Found). f.nodes) c.clear.ensures) has in omega (arith, there.1));
  all = λ a b lt has ahead. absurd (omega (arith, lt));
  some = λ lt. absurd (omega (arith, lt));
  cost = omega arith;
  rise = omega arith;
}

pub loop-node-preserved : goal.loop-node-preserved
loop-node-preserved g c =
    let before = c.loop-node.invariant in
    let old = c.loop-node.pool in
    let new = c.read_from.new.pool in
    let node = c.in-Some.node in
    let some = c.in-Some.ensures.some in
    let adds = c.read_from.ensures.added in
    record {
      size = adds.size ∙ before.size;
      within = omega (arith, some.1, c.requires.set);
      only = λ b has. elim (adds-cases old new adds b has) [
        | inl earlier ↦ before.only b earlier
        | inr ahead ↦ (node, some.2, ahead)
      ];
      all = λ a b lt has ahead. elim (cases_lt a c.loop-node.from) [
        | inl earlier ↦ adds-still old new adds b (before.all a b earlier has ahead)
        | inr later ↦
            let le : node ≤ a = c.in-Some.ensures.least a later has in
            let same : a ≡ node = omega (arith, lt, le) in
            adds.all b (subst (λ n. IsAhead c.args.model.now c.args.event.now n b) same ahead)
      ];
      some = λ lt. (node, some.2);
      cost = omega (arith, before.cost, c.read_from.ensures.cost, below_and_at (λ (e : SysEdge). e.from) c.loop-node.from node some.0 c.args.model.now.sys);
      rise = omega (arith, before.rise, c.read_from.ensures.cost);
    }

pub returns-clause-all : goal.returns-clause-all
returns-clause-all g c = λ a b has ahead. elim (cases_lt a c.loop-node.from) [
  | inl earlier ↦ c.loop-node.invariant.all a b earlier has ahead
  | inr later ↦ absurd (c.in_default.ensures.none a later has)
]

pub returns-clause-cost : goal.returns-clause-cost
returns-clause-cost g c = omega (arith, c.loop-node.invariant.cost, filter-few (λ (e : SysEdge). nat_lt e.from c.loop-node.from) c.args.model.now.sys)

pub returns-clause-some : goal.returns-clause-some
returns-clause-some g c = λ on. c.loop-node.invariant.some (ltb-true 0 c.loop-node.from on)

pub returns-clause-none : goal.returns-clause-none
returns-clause-none g c = λ off a has. elim (cases_lt 0 c.loop-node.from) [
  | inl some ↦ off (lt-ltb 0 c.loop-node.from some)
  | inr first ↦ c.in_default.ensures.none a (omega (arith, first)) has
]
