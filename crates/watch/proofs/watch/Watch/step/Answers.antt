use Rattle.std.proofs.Common.{refl, [], ◌∷◌, ◌++◌, ap, ◌∙◌, List, ℕ, nat_eq, ◌≡◌}
use Rattle.flow_model.specs.Verdict.{IsStep}
use Rattle.indexmap.specs.IndexSet.{insert_key}
use Rattle.watch.specs.Own.{own, record_of}
use Rattle.watch.proofs.WatchLemmas.{stepped, moved, from_ok, watched_entries}
use Rattle.watch.proofs.watch.Watch.step.Goals as goal

pub sweep-requires : goal.sweep-requires
sweep-requires g c =
    let w = c.args.self.now in
    let r = c.requires in
    let first = from_ok c.insert.result (c.insert.ensures.succeeds c.in_ok-reserve-2.ensures.ok) c.insert.ensures.keys ∙ ap (λ (ks : List ℕ). insert_key nat_eq ks c.args.pid) c.in_ok-reserve-2.ensures.keys in
    (r.0, r.1, r.2, r.3 ++ record_of c.args.pid c.args.event.now ∷ [], stepped g.M.Monitor r.0 r.1 r.2 w r.3 r.4 _ c.args.pid c.args.event.now refl refl first (c.in_ok-step.ensures.watched r.3 (watched_entries g.M.Monitor w.setting w.table c.reserve.new.self w.pool r.3 c.in_ok-reserve.ensures.entries r.4.watched)))

pub returns-then-self-held-clause-stands : goal.returns-then-self-held-clause-stands
returns-then-self-held-clause-stands g c = λ a k version records s.
    let w = c.args.self.now in
    let first = from_ok c.insert.result (c.insert.ensures.succeeds c.in_ok-reserve-2.ensures.ok) c.insert.ensures.keys ∙ ap (λ (ks : List ℕ). insert_key nat_eq ks c.args.pid) c.in_ok-reserve-2.ensures.keys in
    c.sweep.ensures.stands a k version (records ++ record_of c.args.pid c.args.event.now ∷ []) (stepped g.M.Monitor a k version w records s _ c.args.pid c.args.event.now refl refl first (c.in_ok-step.ensures.watched records (watched_entries g.M.Monitor w.setting w.table c.reserve.new.self w.pool records c.in_ok-reserve.ensures.entries s.watched)))

pub returns-then-self-held-clause-exact : goal.returns-then-self-held-clause-exact
returns-then-self-held-clause-exact g c = λ a k version records s.
    let w = c.args.self.now in
    moved (λ b n v. IsStep g.M.Monitor.WHICH b n (own v c.args.pid (records ++ record_of c.args.pid c.args.event.now ∷ [])) c.in_ok-step.step) w.setting a k version s.model s.limit s.form
    (c.in_ok-step.ensures.exact records (watched_entries g.M.Monitor w.setting w.table c.reserve.new.self w.pool records c.in_ok-reserve.ensures.entries s.watched))

pub returns-else-self-eq0-clause-stands : goal.returns-else-self-eq0-clause-stands
returns-else-self-eq0-clause-stands g c = λ a k version records s.
    let w = c.args.self.now in
    let first = from_ok c.insert.result (c.insert.ensures.succeeds c.in_ok-reserve-2.ensures.ok) c.insert.ensures.keys ∙ ap (λ (ks : List ℕ). insert_key nat_eq ks c.args.pid) c.in_ok-reserve-2.ensures.keys in
    stepped g.M.Monitor a k version w records s _ c.args.pid c.args.event.now refl refl first (c.in_ok-step.ensures.watched records (watched_entries g.M.Monitor w.setting w.table c.reserve.new.self w.pool records c.in_ok-reserve.ensures.entries s.watched))

pub returns-else-self-eq0-clause-exact : goal.returns-else-self-eq0-clause-exact
returns-else-self-eq0-clause-exact g c = λ a k version records s.
    let w = c.args.self.now in
    moved (λ b n v. IsStep g.M.Monitor.WHICH b n (own v c.args.pid (records ++ record_of c.args.pid c.args.event.now ∷ [])) c.in_ok-step.step) w.setting a k version s.model s.limit s.form
    (c.in_ok-step.ensures.exact records (watched_entries g.M.Monitor w.setting w.table c.reserve.new.self w.pool records c.in_ok-reserve.ensures.entries s.watched))
