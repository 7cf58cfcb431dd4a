use Rattle.watch.proofs.PastLemmas.{last_told}
use Rattle.watch.proofs.past.Past.last.Goals as goal

pub returns : goal.returns
returns c = last_told c.args.self.now _ c.events_of.ensures
