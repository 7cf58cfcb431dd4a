use Rattle.std.proofs.Common.{◌≡◌, ℕ, ◌<◌, get_or, Contains, refl, subst, arith}
use Rattle.std.proofs.lemmas.List.Elements.{All-get_or}
use Rattle.flow_model.proofs.Grown.{adds-start, adds-more_read, adds-end, adds-add, adds-like}
use Rattle.callgraph_monitor.proofs.visiting.add_all.Goals as goal

pub add-requires : goal.add-requires
add-requires g c =
    omega (arith, All-get_or (λ b. b < c.args.pool.now.size) c.args.ends.now c.loop-end.end-index 0 c.loop-end-test.true c.requires, c.loop-end.invariant.added.size)

pub loop-end-init : goal.loop-end-init
loop-end-init g c = record {
  added = adds-start (λ (e : ℕ) b. e ≡ b) c.args.ends.now c.args.pool.now;
  cost = omega arith;
}

pub loop-end-preserved : goal.loop-end-preserved
loop-end-preserved g c = record {
  added = adds-more_read (λ (e : ℕ) b. e ≡ b) c.args.ends.now c.args.pool.now c.loop-end.pool c.add.new.self c.loop-end.end-index 0 c.loop-end-test.true c.loop-end.invariant.added
      (adds-add c.loop-end.pool c.add.new.self (get_or c.args.ends.now c.loop-end.end-index 0) c.add.result c.add.ensures.added c.add.ensures.had c.add.ensures.same);
  cost = omega (arith, c.tick.ensures, c.loop-end.invariant.cost);
}

pub returns-clause-added : goal.returns-clause-added
returns-clause-added g c =
    adds-like c.args.pool.now c.loop-end.pool (adds-end (λ (e : ℕ) b. e ≡ b) c.args.ends.now c.args.pool.now c.loop-end.pool c.loop-end.end-index (omega (arith, c.loop-end-test.false)) c.loop-end.invariant.added)
    (λ b (e, has, is). subst (Contains c.args.ends.now) is has) (λ b has. (b, has, refl))
