use Rattle.std.proofs.Common.{refl}
use Rattle.null_calls_expressions.proofs.Turns.{starts, goes_on, ends}
use Rattle.null_calls.proofs.declarations.part_list.Goals as goal

pub loop-k-init : goal.loop-k-init
loop-k-init c = starts c.new-made.ensures.items

pub loop-k-preserved : goal.loop-k-preserved
loop-k-preserved c = goes_on c.in_ok-one.one c.loop-k.invariant c.loop-k-test.true c.index-ps-k.is c.in_ok-push.ensures.items (λ r others q. c.in_ok-one.ensures.on r _ others q)

pub returns : goal.returns
returns c = ends c.loop-k.invariant c.loop-k-test.false (λ _ _. refl) refl refl refl
