use Rattle.base_tests.specs.Going.{IsGoing}
use Rattle.base_tests.proofs.watching.give.Given as goal

abbrev pub invariant-loop-one : goal.invariant-loop-one
invariant-loop-one g l = IsGoing g.M.Monitor l.watch
