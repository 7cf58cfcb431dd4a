use Rattle.std.proofs.Common.{subst}
use Rattle.flow_model.specs.Graph.{Graph}
use Rattle.indexmap.specs.IndexMap.{values}
use Rattle.watch.specs.Keeping.{accepted_of}
use Rattle.watch.specs.Watching.{StandsFor}
use Rattle.watch.proofs.MarkLemmas.{all_standing, swept}
use Rattle.watch.proofs.WatchLemmas.{holds_needed}
use Rattle.watch.proofs.watch.Watch.sweep.Goals as goal

pub mark_accepted-requires : goal.mark_accepted-requires
mark_accepted-requires g c =
    let w = c.args.self.now in
    let s = c.requires.4 in
    (w.setting.model, w.setting.bound, s.watched.pool, λ unique. all_standing g.M.Monitor w.setting w.table w.pool w.pool w.pool c.requires.3 unique s.watched)

pub returns-clause-stands : goal.returns-clause-stands
returns-clause-stands g c = λ a k version records s.
    let w = c.args.self.now in
    let model = w.setting.model in
    let mid = c.mark_accepted.ensures.pool model s.watched.pool in
    let noted = c.in_ok-mark_accepted.ensures.ok model s.watched.notes in
    record {
      model = s.model;
      limit = s.limit;
      form = s.form;
      within = s.within;
      watched = swept g.M.Monitor w.setting w.table w.pool c.mark_accepted.new.pool c.sweep.new.pool records
          (λ is. c.sweep.ensures.pool model (c.mark_accepted.ensures.pool model is)) (c.sweep.ensures.notes model mid)
          (λ m n h. c.mark_accepted.ensures.others m model n h)
          (λ m n h. c.sweep.ensures.over m model n h)
          (λ m n h has. c.sweep.ensures.kept model (accepted_of (values w.table)) m n h noted has)
          s.watched;
      order = s.order;
      count = s.count;
    }

pub returns-clause-exact : goal.returns-clause-exact
returns-clause-exact g c = λ a k version records s.
    let w = c.args.self.now in
    let model = w.setting.model in
    let mid = c.mark_accepted.ensures.pool model s.watched.pool in
    let noted = c.in_ok-mark_accepted.ensures.ok model s.watched.notes in
    holds_needed g.M.Monitor a k version _ records (returns-clause-stands g c a k version records s) c.in_ok-mark_accepted.ensures.unique
    (subst (λ (x : Graph). g.M.Monitor.needed c.sweep.new.pool x (accepted_of (values w.table))) s.model (c.sweep.ensures.exact model (accepted_of (values w.table)) mid noted))
