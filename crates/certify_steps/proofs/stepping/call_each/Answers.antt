use Rattle.std.proofs.Common.{ℕ}
use Rattle.certify_steps.specs.Stepping.{IsCalledBy}
use Rattle.certify_steps.proofs.AddingLemmas.{adds_init, adds_step_at, adds_end}
use Rattle.certify_steps.proofs.stepping.call_each.Goals as goal

pub loop-function-init : goal.loop-function-init
loop-function-init c = adds_init c.args.found.now.items (λ (f : ℕ) l. IsCalledBy c.args.functions.now c.args.number c.args.fact c.args.site f l)

pub loop-function-preserved : goal.loop-function-preserved
loop-function-preserved c = adds_step_at c.args.found.now.items c.loop-function.found.items c.call_one.new.found.items (λ (f : ℕ) l. IsCalledBy c.args.functions.now c.args.number c.args.fact c.args.site f l) c.args.candidates.now c.loop-function.function-index 0 c.loop-function-test.true c.loop-function.invariant c.in_ok-call_one.ensures

pub returns : goal.returns
returns c = adds_end c.args.found.now.items c.loop-function.found.items (λ (f : ℕ) l. IsCalledBy c.args.functions.now c.args.number c.args.fact c.args.site f l) c.args.candidates.now c.loop-function.function-index c.loop-function-test.false c.loop-function.invariant
