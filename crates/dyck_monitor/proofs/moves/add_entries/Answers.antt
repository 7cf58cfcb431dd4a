use Rattle.std.proofs.Common.{◌≤◌, ℕ, length, get_or, arith, ◌∙◌}
use Rattle.std.proofs.lemmas.List.{get_or_default}
use Rattle.flow_model.specs.Graph.{HasFunction}
use Rattle.dyck_monitor.specs.Adding.{IsOfOne}
use Rattle.dyck_monitor.proofs.Adding.{adds_start, adds_more, adds_all}
use Rattle.dyck_monitor.proofs.moves.add_entries.Goals as goal

pub loop-function-init : goal.loop-function-init
loop-function-init g c = record {
  adds = adds_start (λ f b. (exit : ℕ) × HasFunction c.args.model.now f b exit) c.args.functions.now c.args.pool.now;
  counted = omega arith;
}

pub add_entry-requires-clause-size : goal.add_entry-requires-clause-size
add_entry-requires-clause-size g c = c.loop-function.invariant.adds.size ∙ c.requires.size

pub loop-function-preserved : goal.loop-function-preserved
loop-function-preserved g c =
    let fs = c.args.functions.now in
    let i = c.loop-function.function-index in
    record {
      adds = adds_more (λ f b. (exit : ℕ) × HasFunction c.args.model.now f b exit) fs i (get_or fs i 0) c.args.pool.now c.loop-function.pool c.add_entry.new.pool
          c.loop-function-test.true (get_or_default fs i 0 (get_or fs i 0) c.loop-function-test.true) c.loop-function.invariant.adds c.add_entry.ensures;
      counted = omega (arith, c.tick.ensures, c.loop-function.invariant.counted);
    }

pub returns-clause-entries : goal.returns-clause-entries
returns-clause-entries g c =
    let over : length c.args.functions.now ≤ c.loop-function.function-index = omega arith in
    adds_all (λ f b. (exit : ℕ) × HasFunction c.args.model.now f b exit) c.args.functions.now (IsOfOne c.args.functions.now (λ f b. (exit : ℕ) × HasFunction c.args.model.now f b exit)) c.loop-function.function-index c.args.pool.now c.loop-function.pool over
    (λ b. (λ is. is, λ is. is)) c.loop-function.invariant.adds
