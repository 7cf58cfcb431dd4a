use Rattle.std.proofs.Common.{◌+◌, ◌-◌, ap, ◌∙◌, arith, rules}
use Rattle.generated_program.specs.Generator.{results_behind}
use Rattle.generated_program.proofs.RecordLemmas.{results_begun, result_added, results_added}
use Rattle.generated_program.proofs.records.generated_results.Goals as goal

pub loop-done-init : goal.loop-done-init
loop-done-init c = results_begun c.square-count.result (c.square-count.result - 0) c.new-records.result.items (omega arith) (search rules)

pub loop-done-preserved : goal.loop-done-preserved
loop-done-preserved c =
    result_added c.loop-done.done (c.loop-done.done + 1) (c.square-count.result - c.loop-done.done) (c.square-count.result - (c.loop-done.done + 1)) c.in_ok-one.one c.loop-done.records.items c.push.new.self.items (results_behind 0 c.square-count.result) (omega arith) (omega arith) c.in_ok-one.ensures (search rules) c.loop-done.invariant

pub returns : goal.returns
returns c =
    results_added c.loop-done.done (c.square-count.result - c.loop-done.done) c.loop-done.records.items (results_behind 0 c.square-count.result) (omega arith) c.loop-done.invariant ∙ ap (results_behind 0) c.square-count.ensures
