use Rattle.std.proofs.lemmas.Bool.{false≢true}
use Rattle.fleet.proofs.GroupLemmas.{has_some, has_none}
use Rattle.fleet.proofs.fleet.Fleet.has.Goals as goal

pub returns-in-Some : goal.returns-in-Some
returns-in-Some g c groups members s = has_some g.M.Monitor c.args.self.now groups members s c.deref.result.now c.in-Some.field-0 c.args.pid c.deref.ensures.value c.in-Some.ensures.some.1

pub returns-in-None : goal.returns-in-None
returns-in-None g c groups members s = (
  λ holds. absurd (false≢true holds),
  λ has. absurd (has_none g.M.Monitor c.args.self.now groups members s c.deref.result.now c.args.pid c.deref.ensures.value c.in-None.ensures.none has),
)
