use Rattle.std.proofs.Common.{refl}
use Rattle.watch.proofs.PastLemmas.{refused_more, kept_more, rejected_more, bound_more}
use Rattle.watch.proofs.past.Past.note.Goals as goal

pub returns-in-Some : goal.returns-in-Some
returns-in-Some c = λ which g k h at step. refused_more which g k h c.args.event c.args.self.now c.in-Some.field-0 c.in-Some.is at

pub returns-in-Rejected : goal.returns-in-Rejected
returns-in-Rejected c = λ which g k h at step. rejected_more which g k h c.args.event c.args.self.now _ c.in-None.is refl refl refl at (rw c.in-Rejected.is at step)

pub returns-in-Bound : goal.returns-in-Bound
returns-in-Bound c = λ which g k h at step. bound_more which g k h c.args.event c.args.self.now _ c.in-None.is refl refl refl at (rw c.in-Bound.is at step)
