use Rattle.watch.proofs.KeyLemmas.{keys_added}
use Rattle.watch.proofs.table.add.Goals as goal

pub returns-clause-keys : goal.returns-clause-keys
returns-clause-keys g c = keys_added c.insert.result c.args.table.now c.insert.new.self c.args.pid c.args.process (c.insert.ensures.succeeds c.requires.room) c.insert.ensures.entries
