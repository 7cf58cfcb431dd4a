use Rattle.std.proofs.Common.{refl}
use Rattle.std.proofs.lemmas.Bool.{iff_false}
use Rattle.dm_base.proofs.AddingLemmas.{adds_nothing}
use Rattle.expected_events.specs.Marked.{IsCalledBy}
use Rattle.expected_events.proofs.RisingLemmas.{adds_pushed}
use Rattle.expected_events.proofs.called.push_called.Goals as goal

pub returns-then-not-contains : goal.returns-then-not-contains
returns-then-not-contains c = adds_nothing c.args.calls.now.items (λ d. IsCalledBy c.args.at.now d c.args.edge.now) (λ d is. iff_false c.contains.ensures c.if-not-contains.true is.0)

pub returns : goal.returns
returns c =
    adds_pushed c.args.calls.now.items c.push.new.self.items (record { name = c.args.edge.now.name; args = c.args.edge.now.args }) (λ d. IsCalledBy c.args.at.now d c.args.edge.now) c.in_ok-push.ensures.items
    (c.contains.ensures.0 c.if-not-contains.false, refl) (λ d is. is.1)
