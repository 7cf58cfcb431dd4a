use Rattle.std.proofs.Common.{◌<◌, ℕ, List, All, length, sym, ap, subst, arith}
use Rattle.std.proofs.lemmas.Bool.{iff_false}
use Rattle.flow_model.specs.Graph.{HasFunction}
use Rattle.dm_sets.specs.Nodes.{Has}
use Rattle.dyck_monitor.specs.Adding.{Adds, IsOfOne}
use Rattle.dyck_monitor.specs.Moves.{IsEntered}
use Rattle.dyck_monitor.proofs.Adding.{adds_nothing, adds_as}
use Rattle.dyck_monitor.proofs.Edges.{entered_by_call, call_candidates, call_cost, never_entered}
use Rattle.dyck_monitor.proofs.moves.enter.Goals as goal

pub returns-in_default-clause-entries : goal.returns-in_default-clause-entries
returns-in_default-clause-entries g c =
    adds_nothing (IsEntered c.args.model.now (Has c.args.nodes.now) c.args.site) c.args.pool.now (λ b entered. absurd (never_entered c.args.model.now (Has c.args.nodes.now) c.args.site (sym c.in_default.ensures) b entered))

pub add_entries-requires-clause-functions : goal.add_entries-requires-clause-functions
add_entries-requires-clause-functions g c =
    subst (λ (fs : List ℕ). All (λ f. f < length c.args.model.now.functions) fs) (sym c.candidates.ensures) (call_candidates c.args.model.now c.requires.valid (Has c.args.nodes.now) c.args.site c.in-Some.call.now (sym c.in-Some.ensures))

pub returns-then-contains-clause-entries : goal.returns-then-contains-clause-entries
returns-then-contains-clause-entries g c =
    let model = c.args.model.now in
    let call = c.in-Some.call.now in
    let by = entered_by_call model c.requires.valid (Has c.args.nodes.now) c.args.site call (sym c.in-Some.ensures) in
    let from = subst (Has c.args.nodes.now) c.from.ensures (c.contains.ensures.0 c.if-contains.true) in
    let entries = subst (λ (fs : List ℕ). Adds (IsOfOne fs (λ f b. (exit : ℕ) × HasFunction model f b exit)) c.args.pool.now c.add_entries.new.pool) c.candidates.ensures c.add_entries.ensures.entries in
    adds_as (IsOfOne call.candidates (λ f b. (exit : ℕ) × HasFunction model f b exit)) (IsEntered model (Has c.args.nodes.now) c.args.site) c.args.pool.now c.add_entries.new.pool (λ b. (λ one. (by b).1 (from, one), λ entered. ((by b).0 entered).1)) entries

pub returns-then-contains-clause-cost : goal.returns-then-contains-clause-cost
returns-then-contains-clause-cost g c =
    omega (arith, c.add_entries.ensures.cost, ap length c.candidates.ensures, call_cost c.args.model.now c.requires.valid (Has c.args.nodes.now) c.args.site c.in-Some.call.now (sym c.in-Some.ensures))

pub returns-else-contains-clause-entries : goal.returns-else-contains-clause-entries
returns-else-contains-clause-entries g c =
    let by = entered_by_call c.args.model.now c.requires.valid (Has c.args.nodes.now) c.args.site c.in-Some.call.now (sym c.in-Some.ensures) in
    adds_nothing (IsEntered c.args.model.now (Has c.args.nodes.now) c.args.site) c.args.pool.now
    (λ b entered. absurd (iff_false c.contains.ensures c.if-contains.false (subst (Has c.args.nodes.now) (sym c.from.ensures) ((by b).0 entered).0)))
