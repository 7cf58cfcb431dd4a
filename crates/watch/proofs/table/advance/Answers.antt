use Rattle.std.proofs.Common.{sym}
use Rattle.watch.proofs.KeyLemmas.{keys_written}
use Rattle.watch.proofs.table.advance.Goals as goal

pub returns-in-Some-clause-keys : goal.returns-in-Some-clause-keys
returns-in-Some-clause-keys g c = keys_written c.args.table.now c.take.result (c.get_mut.follows.lender c.take.new.self) c.args.pid c.in-Some.process.now (c.get_mut.follows.holds c.take.new.self).1 (sym c.in-Some.ensures.value)
