use Rattle.std.proofs.Common.{subst, List, ℕ}
use Rattle.std.specs.Prelude.{IfOk}
use Rattle.watch.specs.Keeping.{verdicts_told}
use Rattle.watch.proofs.WatchLemmas.{verdicts_order, verdicts_exact}
use Rattle.watch.proofs.watch.Watch.verdicts.Goals as goal

pub returns-clause-order : goal.returns-clause-order
returns-clause-order g c = verdicts_order g.M.Monitor c.args.self.now c.verdicts_of.result (rw c.as_slice.ensures.keys at c.verdicts_of.ensures)

pub returns-clause-exact : goal.returns-clause-exact
returns-clause-exact g c = verdicts_exact g.M.Monitor c.args.self.now c.verdicts_of.result (rw c.as_slice.ensures.keys at c.verdicts_of.ensures)
