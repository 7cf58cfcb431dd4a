use Rattle.std.proofs.Common.{◌≡◌, ◌+◌, length, take, eqb, sym, ◌∙◌, subst, arith}
use Rattle.std.specs.Prelude.{filter}
use Rattle.std.specs.List.{list_any}
use Rattle.std.proofs.lemmas.Option.{slice_get_within, get_or_from_slice_get}
use Rattle.flow_model.specs.Graph.{HasSilent}
use Rattle.dyck_monitor.specs.Adding.{Adds}
use Rattle.dyck_monitor.proofs.Counting.{filter_few}
use Rattle.dyck_monitor.proofs.Following.{followed_start, followed_more, followed_cost, followed_all, none_within}
use Rattle.dyck_monitor.proofs.moves.follow.Goals as goal

pub loop-node-init : goal.loop-node-init
loop-node-init g c = record {
  followed = followed_start c.args.model.now c.args.pool.now c.requires.found;
  counted = omega arith;
  rise = omega arith;
}

pub add_next-requires-clause-node : goal.add_next-requires-clause-node
add_next-requires-clause-node g c = omega (arith, c.in-Some.ensures.below, c.loop-node.invariant.followed.size, c.requires.size)

pub add_next-requires-clause-size : goal.add_next-requires-clause-size
add_next-requires-clause-size g c = c.loop-node.invariant.followed.size ∙ c.requires.size

pub overflow_add-done : goal.overflow_add-done
overflow_add-done g c =
    let lt = slice_get_within c.loop-node.pool.nodes c.loop-node.done c.in-Some.node (sym c.in-Some.ensures.get) in
    omega (arith, lt, c.loop-node.invariant.followed.found.few, c.loop-node.invariant.followed.size, c.requires.size, c.requires.valid.entries.few)

pub loop-node-smaller : goal.loop-node-smaller
loop-node-smaller g c =
    let lt = slice_get_within c.loop-node.pool.nodes c.loop-node.done c.in-Some.node (sym c.in-Some.ensures.get) in
    omega (arith, lt, c.loop-node.invariant.followed.found.few, c.loop-node.invariant.followed.size)

pub loop-node-preserved : goal.loop-node-preserved
loop-node-preserved g c =
    let model = c.args.model.now in
    let now = c.loop-node.pool in
    let done = c.loop-node.done in
    let lt = slice_get_within now.nodes done c.in-Some.node (sym c.in-Some.ensures.get) in
    let is = get_or_from_slice_get now.nodes done c.in-Some.node 0 (sym c.in-Some.ensures.get) in
    let adds = subst (λ n. Adds (HasSilent model n) now c.add_next.new.pool) (sym is) c.add_next.ensures.ends in
    let cost = subst (λ n. c.add_next.new.steps ≡ c.loop-node.steps + length (filter (λ e. eqb e.from n) model.silent)) (sym is) c.add_next.ensures.cost in
    record {
      followed = followed_more model c.args.pool.now now c.add_next.new.pool done c.loop-node.invariant.followed lt adds;
      counted = omega (arith, c.loop-node.invariant.counted, cost, followed_cost model c.args.pool.now now c.add_next.new.pool done c.loop-node.invariant.followed lt adds);
      rise = omega (arith, c.loop-node.invariant.rise, c.add_next.ensures.cost);
    }

pub returns-clause-size : goal.returns-clause-size
returns-clause-size g c = c.loop-node.invariant.followed.size

pub returns-clause-found : goal.returns-clause-found
returns-clause-found g c = c.loop-node.invariant.followed.found

pub returns-clause-reached : goal.returns-clause-reached
returns-clause-reached g c = followed_all c.args.model.now c.args.pool.now c.loop-node.pool c.loop-node.done c.loop-node.invariant.followed (none_within c.loop-node.pool.nodes c.loop-node.done c.in_default.ensures.get)

pub returns-clause-cost : goal.returns-clause-cost
returns-clause-cost g c = omega (arith, c.loop-node.invariant.counted, filter_few (λ e. list_any (eqb e.from) (take c.loop-node.done c.loop-node.pool.nodes)) c.args.model.now.silent)
