use Rattle.std.proofs.Common.{ap, ◌∙◌, Bool, None}
use Rattle.std.specs.Prelude.{if◌then◌else◌}
use Rattle.watch.specs.Own.{own}
use Rattle.watch.specs.Pasts.{refused_event}
use Rattle.watch.proofs.WatchLemmas.{has_first, history_of}
use Rattle.watch.proofs.watch.Watch.refused.Goals as goal

pub returns-then-not-contains : goal.returns-then-not-contains
returns-then-not-contains g c = λ a k version records verdict s told.
    ap (λ (b : Bool). if b then refused_event verdict (own version c.args.pid records) else None) (c.if-not-contains.ensures ∙ has_first g.M.Monitor a k version c.args.self.now records s c.args.pid)

pub returns : goal.returns
returns g c = λ a k version records verdict s told.
    let at = history_of g.M.Monitor a k version c.args.self.now records s c.args.pid c.in_ok-process.process.now c.in_ok-process.ensures.value in
    c.refused.ensures g.M.Monitor.WHICH a k (own version c.args.pid records) verdict at.past told
    ∙ ap (λ (b : Bool). if b then refused_event verdict (own version c.args.pid records) else None) (c.if-not-contains.ensures ∙ has_first g.M.Monitor a k version c.args.self.now records s c.args.pid)
