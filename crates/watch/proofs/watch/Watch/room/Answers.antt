use Rattle.std.proofs.Common.{◌+◌, ap, ◌∙◌, Bool, not}
use Rattle.std.specs.Prelude.{if◌then◌else◌}
use Rattle.watch.proofs.WatchLemmas.{room_told}
use Rattle.watch.proofs.watch.Watch.room.Goals as goal

pub returns : goal.returns
returns g c = λ a k version records s.
    let own = c.one_if-own.ensures ∙ ap (λ (b : Bool). if not b then 1 else 0) c.contains_key.ensures in
    let child = c.one_if-child.ensures ∙ ap (λ (b : Bool). if b then 1 else 0) c.is_some.ensures in
    room_told g.M.Monitor a k version c.args.self.now records s c.args.pid c.args.event.now c.newborn.result c.newborn.ensures
    (c.len.result + c.one_if-own.result + c.one_if-child.result)
    (λ i. c.len.ensures.len i + own i + child i)
