use Rattle.std.proofs.Common.{ap, refl, ◌∙◌, sym}
use Rattle.std.proofs.lemmas.Bool.{iff_false, false≢true}
use Rattle.dm_sets.specs.Nodes.{Has}
use Rattle.flow_model.specs.Found.{Found}
use Rattle.dyck_monitor.specs.Moves.{IsAhead}
use Rattle.dyck_monitor.proofs.Adding.{adds_to_none, some_found, none_found}
use Rattle.dyck_monitor.proofs.Going.{after_found, stands_wrong, stands_rejected, stands_kept, stands_bound}
use Rattle.dyck_monitor.proofs.monitor.go_on.Goals as goal

pub returns-then-not-is_next-clause-stands : goal.returns-then-not-is_next-clause-stands
returns-then-not-is_next-clause-stands g c = λ k h stands.
    stands_wrong c.args.model.now k c.args.nodes.now c.args.sites.now h c.args.event.now c.args.nodes.now c.args.sites.now stands refl refl (λ z goes. iff_false c.is_next.ensures c.if-not-is_next.true (z, goes))

pub returns-then-len-eq0-clause-stands : goal.returns-then-len-eq0-clause-stands
returns-then-len-eq0-clause-stands g c = λ k h stands.
    let model = c.args.model.now in
    let first = adds_to_none (IsAhead model (Has c.args.nodes.now) c.args.event.now) c.clear.new.self c.look_ahead.new.pool (ap (λ (w : Found). w.nodes) c.clear.ensures) c.look_ahead.ensures.ahead in
    stands_rejected model k c.args.nodes.now c.args.sites.now h c.args.event.now c.args.nodes.now c.args.sites.now stands refl refl
    (λ b ahead. none_found c.look_ahead.new.pool.nodes (sym c.len.ensures.len ∙ c.if-len-eq0.true) b ((first b).1 ahead))

pub returns-then-turn-clause-stands : goal.returns-then-turn-clause-stands
returns-then-turn-clause-stands g c = λ k h stands.
    let model = c.args.model.now in
    let first = adds_to_none (IsAhead model (Has c.args.nodes.now) c.args.event.now) c.clear.new.self c.look_ahead.new.pool (ap (λ (w : Found). w.nodes) c.clear.ensures) c.look_ahead.ensures.ahead in
    let (b, has) = some_found c.look_ahead.new.pool.nodes (λ none. c.if-len-eq0.false (c.len.ensures.len ∙ none)) in
    stands_kept model k c.args.nodes.now c.args.sites.now h c.args.event.now c.fill.new.set c.turn.new.sites stands c.fill.ensures.size c.turn.ensures.bound b ((first b).0 has)
    (after_found model (Has c.args.nodes.now) (Has c.fill.new.set) c.args.event.now c.look_ahead.new.pool.nodes c.follow.new.pool.nodes first c.follow.ensures.reached c.fill.ensures.has)
    (c.turn.ensures.went c.if-turn.true) (c.turn.ensures.opened c.if-turn.true)

pub returns-else-turn-clause-stands : goal.returns-else-turn-clause-stands
returns-else-turn-clause-stands g c = λ k h stands.
    let model = c.args.model.now in
    let first = adds_to_none (IsAhead model (Has c.args.nodes.now) c.args.event.now) c.clear.new.self c.look_ahead.new.pool (ap (λ (w : Found). w.nodes) c.clear.ensures) c.look_ahead.ensures.ahead in
    let (b, has) = some_found c.look_ahead.new.pool.nodes (λ none. c.if-len-eq0.false (c.len.ensures.len ∙ none)) in
    let full = c.turn.ensures.full (λ went. false≢true (sym c.if-turn.false ∙ went)) in
    stands_bound model k c.args.nodes.now c.args.sites.now h c.args.event.now c.fill.new.set c.turn.new.sites stands c.fill.ensures.size c.turn.ensures.bound b ((first b).0 has) full.0 full.1
