use Rattle.std.proofs.Common.{ap, ◌∙◌, ℕ, List}
use Rattle.std.specs.Map.{keys_of}
use Rattle.watch.proofs.KeyLemmas.{keys_inserted}
use Rattle.watch.proofs.table.begin.Goals as goal

pub returns-clause-keys : goal.returns-clause-keys
returns-clause-keys g c = ap keys_of c.in_ok-insert.ensures.entries ∙ keys_inserted c.args.table.now.entries c.args.pid c.take.new.self
