use Rattle.std.proofs.Common.{◌≡◌, ◌<◌, ℕ, List, Contains, All, length, sym, ◌∙◌, ap, subst, arith}
use Rattle.std.proofs.lemmas.Bool.{iff_false}
use Rattle.flow_model.specs.Graph.{HasFunction}
use Rattle.dm_sets.specs.Nodes.{Has}
use Rattle.dyck_monitor.specs.Moves.{IsReturned}
use Rattle.dyck_monitor.proofs.Adding.{adds_nothing, adds_as}
use Rattle.dyck_monitor.proofs.Edges.{returned_by_call, call_candidates, call_cost, call_to, never_returned}
use Rattle.dyck_monitor.proofs.moves.leave.Goals as goal

pub returns-in_default-clause-ends : goal.returns-in_default-clause-ends
returns-in_default-clause-ends g c =
    adds_nothing (IsReturned c.args.model.now (Has c.args.nodes.now) c.args.site) c.args.pool.now (λ b returned. absurd (never_returned c.args.model.now (Has c.args.nodes.now) c.args.site (sym c.in_default.ensures) b returned))

pub is_over-requires : goal.is_over-requires
is_over-requires g c = record {
  functions = subst (λ (fs : List ℕ). All (λ f. f < length c.args.model.now.functions) fs) (sym c.candidates.ensures) (call_candidates c.args.model.now c.requires.valid (Has c.args.nodes.now) c.args.site c.in-Some.call.now (sym c.in-Some.ensures));
}

pub note-requires : goal.note-requires
note-requires g c = omega (arith, c.requires.size, c.to.ensures, call_to c.args.model.now c.requires.valid (Has c.args.nodes.now) c.args.site c.in-Some.call.now (sym c.in-Some.ensures))

pub returns-then-is_over-clause-ends : goal.returns-then-is_over-clause-ends
returns-then-is_over-clause-ends g c =
    let model = c.args.model.now in
    let call = c.in-Some.call.now in
    let by = returned_by_call model c.requires.valid (Has c.args.nodes.now) c.args.site call (sym c.in-Some.ensures) in
    let over = subst (λ (fs : List ℕ). (f : ℕ) × (entry : ℕ) × (exit : ℕ) × Contains fs f × HasFunction model f entry exit × Has c.args.nodes.now exit) c.candidates.ensures (c.is_over.ensures.over.0 c.if-is_over.true) in
    adds_as (λ b. c.to.result ≡ b) (IsReturned model (Has c.args.nodes.now) c.args.site) c.args.pool.now c.note.new.pool
    (λ b. (λ same. (by b).1 (over, sym c.to.ensures ∙ same), λ returned. c.to.ensures ∙ ((by b).0 returned).1)) c.note.ensures

pub returns-then-is_over-clause-cost : goal.returns-then-is_over-clause-cost
returns-then-is_over-clause-cost g c =
    omega (arith, c.is_over.ensures.cost, ap length c.candidates.ensures, call_cost c.args.model.now c.requires.valid (Has c.args.nodes.now) c.args.site c.in-Some.call.now (sym c.in-Some.ensures))

pub returns-else-is_over-clause-ends : goal.returns-else-is_over-clause-ends
returns-else-is_over-clause-ends g c =
    let model = c.args.model.now in
    let by = returned_by_call model c.requires.valid (Has c.args.nodes.now) c.args.site c.in-Some.call.now (sym c.in-Some.ensures) in
    adds_nothing (IsReturned model (Has c.args.nodes.now) c.args.site) c.args.pool.now
    (λ b returned. absurd (iff_false c.is_over.ensures.over c.if-is_over.false (subst (λ (fs : List ℕ). (f : ℕ) × (entry : ℕ) × (exit : ℕ) × Contains fs f × HasFunction model f entry exit × Has c.args.nodes.now exit) (sym c.candidates.ensures) ((by b).0 returned).0)))

pub returns-else-is_over-clause-cost : goal.returns-else-is_over-clause-cost
returns-else-is_over-clause-cost g c =
    omega (arith, c.is_over.ensures.cost, ap length c.candidates.ensures, call_cost c.args.model.now c.requires.valid (Has c.args.nodes.now) c.args.site c.in-Some.call.now (sym c.in-Some.ensures))
