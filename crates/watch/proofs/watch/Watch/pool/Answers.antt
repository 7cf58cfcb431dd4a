use Rattle.watch.proofs.WatchLemmas.{monitors_known}
use Rattle.watch.proofs.watch.Watch.pool.Goals as goal

pub returns-clause-known : goal.returns-clause-known
returns-clause-known g c = λ a k version records p stands. monitors_known g.M.Monitor a k version c.args.self.now records stands p
